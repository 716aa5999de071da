-- Runs of bytes of a class, and what fronts of bytes are.
use Rattle.std.proofs.Common.{◌≡◌, ◌≤◌, ℕ, zero, suc, Bool, true, false, cond, leb, eqb, List, [], ◌∷◌, length, get_or, take, refl, sym, ap, ◌∙◌, arith}
use Rattle.std.specs.Prelude.{◌&&◌}
use Rattle.std.proofs.lemmas.Bool.Decides.{nat_tests}
use Rattle.asm_lex.specs.declared.classes.Class.{Class}
use Rattle.asm_lex.specs.declared.classes.Class.TheVariants as classes
use Rattle.asm_lex.specs.Classes.{is_of, every, run, is_dot, is_quote, is_text_byte, is_name_byte}
use Rattle.asm_lex.specs.Lexemes.{before_dot, is_closed}

leb-zero : (n : ℕ) → leb 0 n ≡ true
leb-zero n = grind (arith, nat_tests)

leb-suc : (m n : ℕ) → leb (suc m) (suc n) ≡ leb m n
leb-suc m n = grind (arith, nat_tests)

leb-none : (m : ℕ) → leb (suc m) 0 ≡ false
leb-none m = grind (arith, nat_tests)

eqb-zero : (n : ℕ) → eqb 0 (suc n) ≡ false
eqb-zero n = grind (arith, nat_tests)

eqb-none : (n : ℕ) → eqb (suc n) 0 ≡ false
eqb-none n = grind (arith, nat_tests)

eqb-suc : (m n : ℕ) → eqb (suc m) (suc n) ≡ eqb m n
eqb-suc m n = grind (arith, nat_tests)

pub run-within : (class : Class) (bytes : List ℕ) → run class bytes ≤ length bytes
run-within class [] = omega arith
run-within class (b ∷ bs) = by (is_of class b) (run-within class bs)
  where
    by : (t : Bool) → run class bs ≤ length bs → cond t (suc (run class bs)) 0 ≤ suc (length bs)
    by true rest = omega arith
    by false rest = omega arith

-- the first m bytes are all of a class exactly where the run has m
pub every-take : (class : Class) (bytes : List ℕ) (m : ℕ) → m ≤ length bytes → every class (take m bytes) ≡ leb m (run class bytes)
every-take class bytes zero le = sym (leb-zero (run class bytes))
every-take class [] (suc m) le = absurd (omega arith)
every-take class (b ∷ bs) (suc m) le = by (is_of class b) (every-take class bs m (omega arith))
  where
    by : (t : Bool) → every class (take m bs) ≡ leb m (run class bs) → (t && every class (take m bs)) ≡ leb (suc m) (cond t (suc (run class bs)) 0)
    by true rest = rest ∙ sym (leb-suc m (run class bs))
    by false rest = sym (leb-none m)

-- name bytes, and a dot after them
abbrev pub word_run : List ℕ → ℕ
word_run [] = 0
word_run (b ∷ bs) = cond (is_name_byte b) (suc (word_run bs)) (cond (is_dot b) 1 0)

pub word_run-within : (bytes : List ℕ) → word_run bytes ≤ length bytes
word_run-within [] = omega arith
word_run-within (b ∷ bs) = by (is_name_byte b) (is_dot b) (word_run-within bs)
  where
    by : (t u : Bool) → word_run bs ≤ length bs → cond t (suc (word_run bs)) (cond u 1 0) ≤ suc (length bs)
    by true u rest = omega arith
    by false true rest = omega arith
    by false false rest = omega arith

-- the first m bytes without a dot at the end are name bytes exactly where so many stand there
pub every-before_dot : (bytes : List ℕ) (m : ℕ) → m ≤ length bytes → every classes.Name (before_dot (take m bytes)) ≡ leb m (word_run bytes)
every-before_dot bytes zero le = sym (leb-zero (word_run bytes))
every-before_dot [] (suc m) le = absurd (omega arith)
every-before_dot (b ∷ bs) (suc zero) le = by (is_dot b) (is_name_byte b) refl refl
  where
    by : (u t : Bool) → u ≡ is_dot b → t ≡ is_name_byte b → every classes.Name (cond u [] (b ∷ [])) ≡ leb 1 (cond t (suc (word_run bs)) (cond u 1 0))
    by true true d e = sym (leb-suc 0 (word_run bs) ∙ leb-zero (word_run bs))
    by true false d e = refl
    by false true d e = rw (sym e) (sym (leb-suc 0 (word_run bs) ∙ leb-zero (word_run bs)))
    by false false d e = rw (sym e) refl
every-before_dot (b ∷ []) (suc (suc m)) le = absurd (omega arith)
every-before_dot (b ∷ c ∷ cs) (suc (suc m)) le = by (is_name_byte b) (is_dot b) (every-before_dot (c ∷ cs) (suc m) (omega arith))
  where
    by : (t u : Bool) → every classes.Name (before_dot (take (suc m) (c ∷ cs))) ≡ leb (suc m) (word_run (c ∷ cs)) → (t && every classes.Name (before_dot (take (suc m) (c ∷ cs)))) ≡ leb (suc (suc m)) (cond t (suc (word_run (c ∷ cs))) (cond u 1 0))
    by true u rest = rest ∙ sym (leb-suc (suc m) (word_run (c ∷ cs)))
    by false true rest = sym (leb-suc (suc m) 0 ∙ leb-none m)
    by false false rest = sym (leb-none (suc m))

-- the greatest such front without its dot has the name bytes
pub length-before_dot : (bytes : List ℕ) → length (before_dot (take (word_run bytes) bytes)) ≡ run classes.Name bytes
length-before_dot [] = refl
length-before_dot (b ∷ bs) = by (is_name_byte b) (is_dot b) refl refl (length-before_dot bs)
  where
    more : (cs : List ℕ) → is_name_byte b ≡ true → length (before_dot (b ∷ cs)) ≡ suc (length (before_dot cs))
    more [] e = let d : is_dot b ≡ false = grind (arith, nat_tests) in rw d refl
    more (c ∷ cs) e = refl

    by : (t u : Bool) → t ≡ is_name_byte b → u ≡ is_dot b → length (before_dot (take (word_run bs) bs)) ≡ run classes.Name bs → length (before_dot (take (cond t (suc (word_run bs)) (cond u 1 0)) (b ∷ bs))) ≡ cond t (suc (run classes.Name bs)) 0
    by true u e d rest = more (take (word_run bs) bs) (sym e) ∙ ap suc rest
    by false true e d rest = rw (sym d) refl
    by false false e d rest = refl

-- a front is closed exactly where it is the run of text bytes with a quote behind it
pub closed-take : (bytes : List ℕ) (m : ℕ) → m ≤ length bytes → is_closed (take m bytes) ≡ (eqb m (suc (run classes.Text bytes)) && is_quote (get_or bytes (run classes.Text bytes) 0))
closed-take bytes zero le = rw (eqb-zero (run classes.Text bytes)) refl
closed-take [] (suc m) le = absurd (omega arith)
closed-take (b ∷ bs) (suc zero) le = by (is_text_byte b) refl
  where
    by : (t : Bool) → t ≡ is_text_byte b → is_quote b ≡ (eqb 1 (suc (cond t (suc (run classes.Text bs)) 0)) && is_quote (get_or (b ∷ bs) (cond t (suc (run classes.Text bs)) 0) 0))
    by true e = let q : is_quote b ≡ false = grind (arith, nat_tests) in rw (q, eqb-suc 0 (suc (run classes.Text bs)), eqb-zero (run classes.Text bs)) refl
    by false e = refl
closed-take (b ∷ []) (suc (suc m)) le = absurd (omega arith)
closed-take (b ∷ c ∷ cs) (suc (suc m)) le = by (is_text_byte b) (closed-take (c ∷ cs) (suc m) (omega arith))
  where
    by : (t : Bool) → is_closed (take (suc m) (c ∷ cs)) ≡ (eqb (suc m) (suc (run classes.Text (c ∷ cs))) && is_quote (get_or (c ∷ cs) (run classes.Text (c ∷ cs)) 0)) → (t && is_closed (take (suc m) (c ∷ cs))) ≡ (eqb (suc (suc m)) (suc (cond t (suc (run classes.Text (c ∷ cs))) 0)) && is_quote (get_or (b ∷ c ∷ cs) (cond t (suc (run classes.Text (c ∷ cs))) 0) 0))
    by true rest = rw (eqb-suc (suc m) (suc (run classes.Text (c ∷ cs)))) rest
    by false rest = rw (eqb-suc (suc m) 0, eqb-none m) refl
