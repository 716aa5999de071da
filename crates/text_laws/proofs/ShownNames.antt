-- A name in front of bytes that cannot lengthen it: that of a register, and that of an operation with its marks.
use Rattle.std.proofs.Common.{◌≡◌, ◌≤◌, ◌<◌, ℕ, suc, ◌+◌, Bool, true, false, cond, leb, List, [], ◌∷◌, ◌++◌, length, drop, Ok, refl, ap, ◌∙◌, arith}
use Rattle.std.specs.Prelude.{◌&&◌, ◌||◌, not, nat_le}
use Rattle.std.specs.Fmt.{decimal}
use Rattle.std.proofs.lemmas.Bool.Decides.{nat_tests}
use Rattle.std.proofs.lemmas.Fmt.{length-decimal-le}
use Rattle.number_text.specs.Number.{is_digit}
use Rattle.asm_lex.specs.declared.classes.Class.TheVariants as classes
use Rattle.asm_lex.specs.declared.token.TokenKind.TheVariants as kinds
use Rattle.asm_lex.specs.Classes.{is_name_start, is_name_byte, is_blank, is_hash, is_dot, every, run}
use Rattle.asm_lex.specs.Fronts.{begins_word}
use Rattle.asm_lex.specs.Tokens.{token, token_at, dots_before}
use Rattle.asm_lex.proofs.WordAt.{word_at, counted}
use Rattle.asm_statements.specs.declared.piece.Piece.{Piece}
use Rattle.asm_statements.specs.declared.piece.Piece.TheVariants as pieces
use Rattle.ppc_ops.specs.declared.op.Op.{Op}
use Rattle.ppc_ops.proofs.Listed.{each}
use Rattle.operand_texts.specs.declared.mnemonic.Mnemonic.{Mnemonic}
use Rattle.operand_texts.specs.Mnemonics.{marked, takes_marks}
use Rattle.ppc_disasm.specs.Texts.{mnemonic_text}
use Rattle.text_laws.proofs.Shown.{Shows, shows_token}
use Rattle.text_laws.proofs.ShownNumbers.{is_end, decimal_spells}

-- name bytes, and perhaps one dot at their end
abbrev pub is_plain : List ℕ → Bool
is_plain [] = true
is_plain (b ∷ []) = is_name_byte b || is_dot b
is_plain (b ∷ c ∷ bs) = is_name_byte b && is_plain (c ∷ bs)

-- such bytes, the first of which is a letter, and at most 32 of them
abbrev pub is_spelling : List ℕ → Bool
is_spelling [] = false
is_spelling (b ∷ bs) = is_name_start b && is_plain (b ∷ bs) && nat_le (length (b ∷ bs)) 32

-- what ends a name has no byte of one, and no dot
no_names : (rest : List ℕ) → is_end rest ≡ true → run classes.Name rest ≡ 0
no_names [] e = refl
no_names (b ∷ bs) e = let no_name : is_name_byte b ≡ false = grind (arith, nat_tests) in rw no_name refl

no_dots : (rest : List ℕ) → is_end rest ≡ true → dots_before rest ≡ 0
no_dots [] e = refl
no_dots (b ∷ bs) e = let no_dot : is_dot b ≡ false = grind (arith, nat_tests) in rw no_dot refl

-- the name bytes that begin the bytes, and a dot behind them
abbrev counted_bytes : List ℕ → ℕ
counted_bytes bytes = run classes.Name bytes + dots_before (drop (run classes.Name bytes) bytes)

none_counted : (rest : List ℕ) → is_end rest ≡ true → counted_bytes rest ≡ 0
none_counted rest e = rw (no_names rest e) (omega (arith, no_dots rest e))

plain_counted : (bytes rest : List ℕ) → is_plain bytes ≡ true → is_end rest ≡ true → counted_bytes (bytes ++ rest) ≡ length bytes
plain_counted [] rest p e = none_counted rest e
plain_counted (b ∷ []) rest p e = by (is_name_byte b) (is_dot b) refl p (none_counted rest e)
  where
    by : (t u : Bool) → is_dot b ≡ u → (t || u) ≡ true → counted_bytes rest ≡ 0 → cond t (suc (run classes.Name rest)) 0 + dots_before (drop (cond t (suc (run classes.Name rest)) 0) (b ∷ rest)) ≡ 1
    by true u d f none = omega (arith, none)
    by false true d f none = rw d refl
    by false false d f none = cc
plain_counted (b ∷ c ∷ cs) rest p e = by (is_name_byte b) p (λ q. plain_counted (c ∷ cs) rest q e)
  where
    by : (t : Bool) → (t && is_plain (c ∷ cs)) ≡ true → (is_plain (c ∷ cs) ≡ true → counted_bytes (c ∷ cs ++ rest) ≡ length (c ∷ cs))
        → cond t (suc (run classes.Name (c ∷ cs ++ rest))) 0 + dots_before (drop (cond t (suc (run classes.Name (c ∷ cs ++ rest))) 0) (b ∷ c ∷ cs ++ rest)) ≡ suc (length (c ∷ cs))
    by true f tail = omega (arith, tail f)
    by false f tail = cc

both_of : (t u v : Bool) → (t && u && v) ≡ true → (t ≡ true) × (u ≡ true) × (v ≡ true)
both_of true true true e = (refl, refl, refl)
both_of true true false e = cc
both_of true false v e = cc
both_of false u v e = cc

-- bytes that begin with a letter begin with a word that is so long
word_of_length : (bytes : List ℕ) (n : ℕ) → begins_word bytes ≡ true → dots_before bytes ≡ 0 → counted_bytes bytes ≡ n → n ≤ 32 → token_at 0 bytes ≡ Ok (token kinds.Word 0 n)
word_of_length bytes n begins none count le =
    let k = run classes.Name bytes in
    let none_more : 0 + k ≡ k = omega arith in
    let short : leb k 32 ≡ true = at_most k 32 (omega (arith, count)) in
    let all : 0 + k + dots_before (drop k bytes) ≡ n = omega (arith, count) in
    word_at 0 bytes begins
    ∙ ap (λ d. counted 0 d (run classes.Name (drop d bytes)) (dots_before (drop (d + run classes.Name (drop d bytes)) bytes))) none
    ∙ ap (λ j. counted 0 0 k (dots_before (drop j bytes))) none_more
    ∙ rw short (ap (λ j. Ok (token kinds.Word 0 j)) all)
  where
    at_most : (m n : ℕ) → m ≤ n → leb m n ≡ true
    at_most m n le = grind (arith, nat_tests)

-- a word in front of bytes
pub shows_word : (word rest : List ℕ) (ps : List Piece) → is_spelling word ≡ true → is_end rest ≡ true → Shows rest ps → Shows (word ++ rest) (pieces.Word word ∷ ps)
shows_word [] rest ps s e behind = cc
shows_word (b ∷ bs) rest ps s e behind =
    let parts = both_of (is_name_start b) (is_plain (b ∷ bs)) (leb (length (b ∷ bs)) 32) s in
    let start : is_name_start b ≡ true = parts.0 in
    let no_dot : is_dot b ≡ false = grind (arith, nat_tests) in
    let begins : begins_word (b ∷ bs ++ rest) ≡ true = rw no_dot start in
    let count : counted_bytes (b ∷ bs ++ rest) ≡ length (b ∷ bs) = plain_counted (b ∷ bs) rest parts.1 e in
    let none : dots_before (b ∷ bs ++ rest) ≡ 0 = rw no_dot refl in
    let short : length (b ∷ bs) ≤ 32 = at_most (length (b ∷ bs)) 32 parts.2 in
    let at : token_at 0 (b ∷ bs ++ rest) ≡ Ok (token kinds.Word 0 (length (b ∷ bs))) = word_of_length (b ∷ bs ++ rest) (length (b ∷ bs)) begins none count short in
    shows_token kinds.Word (b ∷ bs) rest (pieces.Word (b ∷ bs)) ps (omega arith) (no_blank b start) (no_hash b start) at refl behind
  where
    at_most : (m n : ℕ) → leb m n ≡ true → m ≤ n
    at_most m n e = grind (arith, nat_tests)

    no_blank : (b : ℕ) → is_name_start b ≡ true → is_blank b ≡ false
    no_blank b start = grind (arith, nat_tests)

    no_hash : (b : ℕ) → is_name_start b ≡ true → is_hash b ≡ false
    no_hash b start = grind (arith, nat_tests)

-- digits are name bytes
digits_plain : (ds : List ℕ) → every classes.Digit ds ≡ true → is_plain ds ≡ true
digits_plain [] e = refl
digits_plain (b ∷ []) e = by (is_digit b) refl e
  where
    by : (t : Bool) → is_digit b ≡ t → (t && true) ≡ true → is_plain (b ∷ []) ≡ true
    by true d f = grind (arith, nat_tests)
    by false d f = cc
digits_plain (b ∷ c ∷ cs) e = by (is_digit b) refl e (λ f. digits_plain (c ∷ cs) f)
  where
    by : (t : Bool) → is_digit b ≡ t → (t && every classes.Digit (c ∷ cs)) ≡ true → (every classes.Digit (c ∷ cs) ≡ true → is_plain (c ∷ cs) ≡ true) → is_plain (b ∷ c ∷ cs) ≡ true
    by true d f tail = let name : is_name_byte b ≡ true = grind (arith, nat_tests) in rw name (tail f)
    by false d f tail = cc

r_before : (bytes : List ℕ) → is_plain bytes ≡ true → is_plain (114 ∷ bytes) ≡ true
r_before [] e = refl
r_before (b ∷ bs) e = e

-- a general register
register_spelling : (n : ℕ) → n < 32 → is_spelling (114 ∷ decimal n) ≡ true
register_spelling n lt =
    let plain : is_plain (114 ∷ decimal n) ≡ true = r_before (decimal n) (digits_plain (decimal n) (decimal_spells n (omega arith)).digits) in
    let len : length (decimal n) ≤ 2 = length-decimal-le 2 n (omega arith) (omega arith) (omega arith) in
    let short : leb (suc (length (decimal n))) 32 ≡ true = at_most (length (decimal n)) len in
    rw (plain, short) refl
  where
    at_most : (m : ℕ) → m ≤ 2 → leb (suc m) 32 ≡ true
    at_most m le = grind (arith, nat_tests)

pub shows_register : (n : ℕ) (rest : List ℕ) (ps : List Piece) → n < 32 → is_end rest ≡ true → Shows rest ps → Shows (114 ∷ decimal n ++ rest) (pieces.Word (114 ∷ decimal n) ∷ ps)
shows_register n rest ps lt e behind = shows_word (114 ∷ decimal n) rest ps (register_spelling n lt) e behind

-- the names of all operations with all marks that they take
abbrev both : (Bool → Bool) → Bool
both p = p true && p false

of_both : (p : Bool → Bool) → both p ≡ true → (t : Bool) → p t ≡ true
of_both p e true = by (p true) e
  where
    by : (t : Bool) → (t && p false) ≡ true → t ≡ true
    by true f = refl
    by false f = f
of_both p e false = by (p true) e
  where
    by : (t : Bool) → (t && p false) ≡ true → p false ≡ true
    by true f = f
    by false f = cc

abbrev marked_spelling : Op → Bool → Bool → Bool → Bool → Bool
marked_spelling op oe rc lk aa = not (takes_marks (marked op oe rc lk aa)) || is_spelling (mnemonic_text (marked op oe rc lk aa))

abbrev spelling_of : Op → Bool
spelling_of op = both (λ oe. both (λ rc. both (λ lk. both (λ aa. marked_spelling op oe rc lk aa))))

mnemonic_spelling : (m : Mnemonic) → takes_marks m ≡ true → is_spelling (mnemonic_text m) ≡ true
mnemonic_spelling m takes =
    let with_oe = of_both (λ oe. both (λ rc. both (λ lk. both (λ aa. marked_spelling m.op oe rc lk aa)))) (each spelling_of refl m.op) m.oe in
    let with_rc = of_both (λ rc. both (λ lk. both (λ aa. marked_spelling m.op m.oe rc lk aa))) with_oe m.rc in
    let with_lk = of_both (λ lk. both (λ aa. marked_spelling m.op m.oe m.rc lk aa)) with_rc m.lk in
    by (takes_marks m) takes (of_both (λ aa. marked_spelling m.op m.oe m.rc m.lk aa) with_lk m.aa)
  where
    by : (t : Bool) → t ≡ true → (not t || is_spelling (mnemonic_text m)) ≡ true → is_spelling (mnemonic_text m) ≡ true
    by true f e = e
    by false f e = cc

-- an operation's name with its marks
pub shows_mnemonic : (m : Mnemonic) (rest : List ℕ) (ps : List Piece) → takes_marks m ≡ true → is_end rest ≡ true → Shows rest ps → Shows (mnemonic_text m ++ rest) (pieces.Word (mnemonic_text m) ∷ ps)
shows_mnemonic m rest ps takes e behind = shows_word (mnemonic_text m) rest ps (mnemonic_spelling m takes) e behind
