-- Words of guests are cut at an `@`.
use Rattle.std.proofs.Common.{◌≡◌, ℕ, zero, suc, ◌+◌, ◌-◌, ◌<◌, Bool, true, false, cond, eqb, List, [], ◌∷◌, ◌++◌, length, take, drop, Option, Some, None, Ok, Err, get_or, refl, sym, ap, ◌∙◌, arith, length-append, append_assoc, subst}
use Rattle.std.specs.Prelude.{Result, string_bytes, slice_index, option_map, option_and_then, nat_le, IfOk, ◌≤◌}
use Rattle.std.proofs.lemmas.Bool.Decides.{nat_tests}
use Rattle.std.proofs.lemmas.List.{take_rest}
use Rattle.number_text.specs.Hex.{short_hex}
use Rattle.number_text.specs.Number.{number_of, up_to}
use Rattle.radix_top.specs.declared.command.Command.{Command}
use Rattle.radix_top.specs.declared.command.Command.TheVariants.{Run}
use Rattle.radix_top.specs.declared.command.Options.{Options}
use Rattle.radix_top.specs.declared.guest_words.GuestWord.{GuestWord}
use Rattle.radix_top.specs.Words.{Text, word_at, last_at, guest, cut_at, guest_of, asks_for_trace, asks_for_walks, announces_guest, with_trace, with_walks, with_guest, options_of, no_options, or_fault, ◌>>=◌, count_of, run_of, IsCut, AreCut, IsWellNamed}

-- a trace is asked for, whatever stands behind
pub options_trace : (place : ℕ) (before : Options) (w : Text) (rest : List Text) → asks_for_trace before w ≡ true → options_of place before (w ∷ rest) ≡ options_of (place + 1) (with_trace before) rest
options_trace place before w [] asks = rw asks refl
options_trace place before w (v ∷ ws) asks = rw asks refl

-- walks are asked for, whatever stands behind
pub options_walks : (place : ℕ) (before : Options) (w : Text) (rest : List Text) → asks_for_trace before w ≡ false → asks_for_walks before w ≡ true → options_of place before (w ∷ rest) ≡ options_of (place + 1) (with_walks before) rest
options_walks place before w [] trace asks = rw (trace, asks) refl
options_walks place before w (v ∷ ws) trace asks = rw (trace, asks) refl

-- neither a trace nor walks nor a guest is asked for
pub options_other : (place : ℕ) (before : Options) (w : Text) (rest : List Text) → asks_for_trace before w ≡ false → asks_for_walks before w ≡ false → announces_guest before w ≡ false → options_of place before (w ∷ rest) ≡ Err place
options_other place before w [] asks walks none = rw (asks, walks, none) refl
options_other place before w (v ∷ ws) asks walks none = rw (asks, walks, none) refl

same_byte : (a b : ℕ) → eqb a b ≡ true → a ≡ b
same_byte a b e = grind (arith, nat_tests)

pub last_at-is : (bytes : List ℕ) (n k : ℕ) → last_at bytes n ≡ Some k → (k < n) × (slice_index bytes k ≡ 64)
last_at-is bytes zero k e = cc
last_at-is bytes (suc n) k e = by (eqb (slice_index bytes n) 64) refl (last_at-is bytes n k) e
  where
    by : (t : Bool) → eqb (slice_index bytes n) 64 ≡ t → (last_at bytes n ≡ Some k → (k < n) × (slice_index bytes k ≡ 64)) → cond t (Some n) (last_at bytes n) ≡ Some k → (k < suc n) × (slice_index bytes k ≡ 64)
    by true is before f = let same : n ≡ k = cc in (omega (arith, same), ap (slice_index bytes) (sym same) ∙ same_byte (slice_index bytes n) 64 is)
    by false is before f = let rest = before f in (omega (arith, rest.0), rest.1)

cut_at-is : (place : ℕ) (bytes : List ℕ) (o : Option ℕ) (g : GuestWord) → cut_at place bytes o ≡ Some g → (g.place ≡ place) × (o ≡ Some g.name_len)
cut_at-is place bytes None g e = cc
cut_at-is place bytes (Some zero) g e = cc
cut_at-is place bytes (Some (suc n)) g e = by (short_hex (drop (suc n + 1) bytes)) e
  where
    by : (o : Option ℕ) → option_map (guest place (suc n)) o ≡ Some g → (g.place ≡ place) × (Some (suc n) ≡ Some g.name_len)
    by None f = cc
    by (Some at) f = let same : guest place (suc n) at ≡ g = cc in (ap (λ (h : GuestWord). h.place) (sym same), ap (λ (h : GuestWord). Some h.name_len) same)

guest_of-is : (place : ℕ) (w : Text) (g : GuestWord) → guest_of place w ≡ Some g → (g.place ≡ place) × (g.name_len < length (string_bytes w)) × (slice_index (string_bytes w) g.name_len ≡ 64)
guest_of-is place w g e =
    let cut = cut_at-is place (string_bytes w) (last_at (string_bytes w) (length (string_bytes w))) g e in
    let last = last_at-is (string_bytes w) (length (string_bytes w)) g.name_len cut.1 in
    (cut.0, last.0, last.1)

word_at-behind : (front : List Text) (w : Text) (rest : List Text) → word_at (front ++ w ∷ rest) (length front) ≡ string_bytes w
word_at-behind [] w rest = refl
word_at-behind (v ∷ vs) w rest = word_at-behind vs w rest

are_cut-push : (words : List Text) (gs : List GuestWord) (g : GuestWord) → AreCut words gs → IsCut words g → AreCut words (gs ++ g ∷ [])
are_cut-push words [] g are is = (is, tt)
are_cut-push words (h ∷ hs) g are is = (are.0, are_cut-push words hs g are.1 is)

-- the guest of a word of some words
is_cut : (front : List Text) (w : Text) (rest : List Text) (place : ℕ) (g : GuestWord) → place ≡ length front → guest_of place w ≡ Some g → IsCut (front ++ w ∷ rest) g
is_cut front w rest place g there e =
    let is = guest_of-is place w g e in
    let at : g.place ≡ length front = is.0 ∙ there in
    let word : word_at (front ++ w ∷ rest) g.place ≡ string_bytes w = ap (word_at (front ++ w ∷ rest)) at ∙ word_at-behind front w rest in
    (omega (arith, at, length-append front (w ∷ rest)), subst (λ (bytes : List ℕ). g.name_len < length bytes) (sym word) is.1, ap (λ (bytes : List ℕ). slice_index bytes g.name_len) word ∙ is.2)

one_more : (front : List Text) (w : Text) (rest : List Text) → (front ++ w ∷ []) ++ rest ≡ front ++ w ∷ rest
one_more front w rest = append_assoc front (w ∷ []) rest

next_place : (front : List Text) (w : Text) (place : ℕ) → place ≡ length front → place + 1 ≡ length (front ++ w ∷ [])
next_place front w place there = omega (arith, there, length-append front (w ∷ []))

-- guests of options are cut, where the words of the options stand behind others
options_cut : (words front ws : List Text) (place : ℕ) (before options : Options) → words ≡ front ++ ws → place ≡ length front → AreCut words before.guests → options_of place before ws ≡ Ok options → AreCut words options.guests
options_cut words front [] place before options all there cut e = let same : before ≡ options = cc in subst (λ (o : Options). AreCut words o.guests) same cut
options_cut words front (w ∷ []) place before options all there cut e = by (asks_for_trace before w) (asks_for_walks before w) (announces_guest before w) e
  where
    by : (t s u : Bool) → cond t (Ok (with_trace before)) (cond s (Ok (with_walks before)) (cond u (Err (place + 1)) (Err place))) ≡ Ok options → AreCut words options.guests
    by true s u f = let same : with_trace before ≡ options = cc in subst (λ (o : Options). AreCut words o.guests) same cut
    by false true u f = let same : with_walks before ≡ options = cc in subst (λ (o : Options). AreCut words o.guests) same cut
    by false false true f = cc
    by false false false f = cc
options_cut words front (w ∷ v ∷ ws) place before options all there cut e =
    let first : words ≡ (front ++ w ∷ []) ++ v ∷ ws = all ∙ sym (one_more front w (v ∷ ws)) in
    let second : words ≡ ((front ++ w ∷ []) ++ v ∷ []) ++ ws = first ∙ sym (one_more (front ++ w ∷ []) v ws) in
    let next = next_place front w place there in
    let after = next_place (front ++ w ∷ []) v (place + 1) next in
    let two : place + 1 + 1 ≡ place + 2 = omega arith in
    by (asks_for_trace before w) (asks_for_walks before w) (announces_guest before w)
    (λ f. options_cut words (front ++ w ∷ []) (v ∷ ws) (place + 1) (with_trace before) options first next cut f)
    (λ f. options_cut words (front ++ w ∷ []) (v ∷ ws) (place + 1) (with_walks before) options first next cut f)
    (λ g is f. options_cut words ((front ++ w ∷ []) ++ v ∷ []) ws (place + 2) (with_guest before g) options second (sym two ∙ after)
    (are_cut-push words before.guests g cut (subst (λ (all : List Text). IsCut all g) (sym first) (is_cut (front ++ w ∷ []) v ws (place + 1) g next is))) f)
    e
  where
    guests : ((g : GuestWord) → guest_of (place + 1) v ≡ Some g → options_of (place + 2) (with_guest before g) ws ≡ Ok options → AreCut words options.guests) → (o : Option GuestWord) → guest_of (place + 1) v ≡ o
        → (or_fault o (place + 1) >>= (λ g. options_of (place + 2) (with_guest before g) ws)) ≡ Ok options → AreCut words options.guests
    guests more None is f = cc
    guests more (Some g) is f = more g is f

    by : (t s u : Bool) → (options_of (place + 1) (with_trace before) (v ∷ ws) ≡ Ok options → AreCut words options.guests)
        → (options_of (place + 1) (with_walks before) (v ∷ ws) ≡ Ok options → AreCut words options.guests)
        → ((g : GuestWord) → guest_of (place + 1) v ≡ Some g → options_of (place + 2) (with_guest before g) ws ≡ Ok options → AreCut words options.guests)
        → cond t (options_of (place + 1) (with_trace before) (v ∷ ws)) (cond s (options_of (place + 1) (with_walks before) (v ∷ ws)) (cond u (or_fault (guest_of (place + 1) v) (place + 1) >>= (λ g. options_of (place + 2) (with_guest before g) ws)) (Err place))) ≡ Ok options → AreCut words options.guests
    by true s u trace walks more f = trace f
    by false true u trace walks more f = walks f
    by false false true trace walks more f = guests more (guest_of (place + 1) v) refl f
    by false false false trace walks more f = cc

-- guests of a run's options are cut
pub run_cut : (run image schedule count : Text) (more : List Text) (options : Options) → options_of 4 no_options more ≡ Ok options → AreCut (run ∷ image ∷ schedule ∷ count ∷ more) options.guests
run_cut run image schedule count more options e = options_cut (run ∷ image ∷ schedule ∷ count ∷ more) (run ∷ image ∷ schedule ∷ count ∷ []) more 4 no_options options refl refl tt e

-- a word that asks for a trace was read
pub trace_read : (place : ℕ) (before : Options) (words : List Text) (w : Text) → 0 < length words → w ≡ get_or words 0 w → asks_for_trace before w ≡ true
    → options_of (place + 1) (with_trace before) (take (length words - 1) (drop 1 words)) ≡ options_of place before words
trace_read place before [] w some is asks = absurd (omega arith)
trace_read place before (v ∷ vs) w some is asks = ap (options_of (place + 1) (with_trace before)) (take_rest (v ∷ vs) 1) ∙ sym (options_trace place before v vs (rw is at asks))

-- a word that asks for walks was read
pub walks_read : (place : ℕ) (before : Options) (words : List Text) (w : Text) → 0 < length words → w ≡ get_or words 0 w → asks_for_trace before w ≡ false → asks_for_walks before w ≡ true
    → options_of (place + 1) (with_walks before) (take (length words - 1) (drop 1 words)) ≡ options_of place before words
walks_read place before [] w some is trace asks = absurd (omega arith)
walks_read place before (v ∷ vs) w some is trace asks = ap (options_of (place + 1) (with_walks before)) (take_rest (v ∷ vs) 1) ∙ sym (options_walks place before v vs (rw is at trace) (rw is at asks))

-- a word that announces a guest was read, and the guest's word
pub guest_read : (place : ℕ) (before : Options) (words rest : List Text) (w v : Text) (g : GuestWord) → 0 < length words → w ≡ get_or words 0 w → rest ≡ take (length words - 1) (drop 1 words) → 0 < length rest → v ≡ get_or rest 0 v
    → asks_for_trace before w ≡ false → asks_for_walks before w ≡ false → announces_guest before w ≡ true → guest_of (place + 1) v ≡ Some g
    → options_of (place + 2) (with_guest before g) (take (length rest - 1) (drop 1 rest)) ≡ options_of place before words
guest_read place before [] rest w v g some is all more next asks walks announces cut = absurd (omega arith)
guest_read place before (x ∷ []) rest w v g some is all more next asks walks announces cut = absurd (omega (arith, ap length all))
guest_read place before (x ∷ y ∷ ys) rest w v g some is all more next asks walks announces cut =
    let behind : rest ≡ y ∷ ys = all ∙ take_rest (x ∷ y ∷ ys) 1 in
    let first : w ≡ x = is in
    let second : v ≡ y = next ∙ ap (λ (l : List Text). get_or l 0 v) behind in
    let more_behind : take (length rest - 1) (drop 1 rest) ≡ ys = ap (λ (l : List Text). take (length l - 1) (drop 1 l)) behind ∙ take_rest (y ∷ ys) 1 in
    rw (more_behind, ← first, asks, walks, announces, ← second, cut) refl

few_steps : (w : Text) (n : ℕ) → count_of w ≡ Some n → n ≤ 1048576
few_steps w n e = by (number_of (string_bytes w)) e
  where
    below : (m : ℕ) → nat_le m 1048576 ≡ true → m ≤ 1048576
    below m t = grind (arith, nat_tests)

    test : (m : ℕ) (t : Bool) → nat_le m 1048576 ≡ t → cond t (Some m) None ≡ Some n → n ≤ 1048576
    test m true is f = let same : m ≡ n = cc in omega (arith, same, below m is)
    test m false is f = cc

    by : (o : Option ℕ) → option_and_then (up_to 1048576) o ≡ Some n → n ≤ 1048576
    by None f = cc
    by (Some m) f = test m (nat_le m 1048576) refl f

-- a run's words are long enough, it has at most the most steps, and its guests' words are cut
pub run_named : (words : List Text) (w : Text) (r : Result Command ℕ) → 0 < length words → w ≡ get_or words 0 w → r ≡ run_of (take (length words - 1) (drop 1 words)) → IfOk r (IsWellNamed words)
run_named [] w r some first is = absurd (omega arith)
run_named (v ∷ []) w r some first is = rw (is ∙ ap run_of (take_rest (v ∷ []) 1)) tt
run_named (v ∷ image ∷ []) w r some first is = rw (is ∙ ap run_of (take_rest (v ∷ image ∷ []) 1)) tt
run_named (v ∷ image ∷ schedule ∷ []) w r some first is = rw (is ∙ ap run_of (take_rest (v ∷ image ∷ schedule ∷ []) 1)) tt
run_named (v ∷ image ∷ schedule ∷ count ∷ more) w r some first is = rw (is ∙ ap run_of (take_rest (v ∷ image ∷ schedule ∷ count ∷ more) 1)) (by (count_of count) refl)
  where
    long : 3 < length (v ∷ image ∷ schedule ∷ count ∷ more)
    long = omega arith

    options : (n : ℕ) → n ≤ 1048576 → (o : Result Options ℕ) → options_of 4 no_options more ≡ o → IfOk (o >>= (λ options. Ok (Run n options))) (IsWellNamed (v ∷ image ∷ schedule ∷ count ∷ more))
    options n le (Ok o) e = (long, le, run_cut v image schedule count more o e)
    options n le (Err p) e = tt

    by : (o : Option ℕ) → count_of count ≡ o → IfOk (or_fault o 3 >>= (λ n. options_of 4 no_options more >>= (λ options. Ok (Run n options)))) (IsWellNamed (v ∷ image ∷ schedule ∷ count ∷ more))
    by None e = tt
    by (Some n) e = options n (few_steps count n e) (options_of 4 no_options more) refl
