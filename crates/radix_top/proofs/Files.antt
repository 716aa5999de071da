-- What the reading of a named file says.
use Rattle.std.proofs.Common.{◌≡◌, ℕ, zero, suc, ◌<◌, ◌≤◌, List, [], ◌∷◌, ◌++◌, length, get_or, Option, Some, None, sym, ap, arith}
use Rattle.std.specs.Prelude.{string_bytes, IfSome}
use Rattle.outer_io.specs.Outside.{Asked}
use Rattle.outer_io.specs.declared.files.Answer.{Answer}
use Rattle.radix_top.specs.Words.{Text, word_at}
use Rattle.radix_top.specs.Inputs.{most, asked}

pub word_at-get : (words : List Text) (p : ℕ) (w : Text) → p < length words → w ≡ get_or words p w → word_at words p ≡ string_bytes w
word_at-get [] p w lt is = absurd (omega (arith, lt))
word_at-get (v ∷ ws) zero w lt is = ap string_bytes (sym is)
word_at-get (v ∷ ws) (suc p) w lt is = word_at-get ws p w (omega (arith, lt)) is

pub weaker : (told : Option (List ℕ)) (P Q : List ℕ → Type 0) → ((bytes : List ℕ) → P bytes → Q bytes) → IfSome told P → IfSome told Q
weaker None P Q f h = tt
weaker (Some bytes) P Q f h = f bytes h

whole : (max : ℕ) (old new bytes : List ℕ) → old ≡ [] → (length bytes ≤ max) × (new ≡ old ++ bytes) → (length bytes ≤ max) × (new ≡ bytes)
whole max old new bytes e h = (h.0, rw e at h.1)

-- a file that was read whole into nothing
pub read_whole : (told : List ℕ → Option (List ℕ)) (name same old new : List ℕ) → name ≡ same → old ≡ [] →
    IfSome (told name) (λ bytes. (length bytes ≤ most) × (new ≡ old ++ bytes)) → IfSome (told same) (λ bytes. (length bytes ≤ most) × (new ≡ bytes))
read_whole told name same old new e none h =
    rw e at (weaker (told name) (λ bytes. (length bytes ≤ most) × (new ≡ old ++ bytes)) (λ bytes. (length bytes ≤ most) × (new ≡ bytes)) (λ bytes here. whole most old new bytes none here) h)

-- the same call by another name for the file
pub asked_again : (last : Option Asked) (name same : List ℕ) (answer : Answer) → name ≡ same → last ≡ Some (asked name answer) → last ≡ Some (asked same answer)
asked_again last name same answer e is = rw e at is

pub told_again : (told : List ℕ → Option (List ℕ)) (name same : List ℕ) (P : List ℕ → Type 0) → name ≡ same → IfSome (told name) P → IfSome (told same) P
told_again told name same P e h = rw e at h
