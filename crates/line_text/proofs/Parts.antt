-- A text that is put part by part: what is known after each number of parts, and where a part was cut short.
use Rattle.std.proofs.Common.{◌≡◌, ℕ, zero, suc, ◌+◌, ◌≤◌, List, [], ◌∷◌, ◌++◌, length, take, drop, Option, Some, Result, Ok, Err, refl, ap, sym, ◌∙◌, subst, arith, append_assoc}
use Rattle.std.specs.Prelude.{slice_get}
use Rattle.std.proofs.lemmas.List.{append-nil, take_all}
use Rattle.outer_io.specs.declared.sink.SinkFault.{SinkFault}
use Rattle.outer_io.specs.Outside.{CountRose, added, AddsFront, Puts}
use Rattle.outer_io.proofs.Printing.{puts_then, puts_stop, puts_nothing}
use Rattle.line_text.specs.Text.{text_of}

pub text_of-take : (parts : List (List ℕ)) (k : ℕ) (part : List ℕ) → slice_get parts k ≡ Some part → text_of (take (suc k) parts) ≡ text_of (take k parts) ++ part
unfolding text_of
text_of-take [] k part e = absurd cc
text_of-take (p ∷ ps) zero part e = let same : p ≡ part = cc in append-nil p ∙ same
text_of-take (p ∷ ps) (suc k) part e = ap (λ (t : List ℕ). p ++ t) (text_of-take ps k part e) ∙ sym (append_assoc p (text_of (take k ps)) part)

pub text_of-parts : (parts : List (List ℕ)) (k : ℕ) → text_of parts ≡ text_of (take k parts) ++ text_of (drop k parts)
unfolding text_of
text_of-parts parts zero = refl
text_of-parts [] (suc k) = refl
text_of-parts (p ∷ ps) (suc k) = ap (λ (t : List ℕ). p ++ t) (text_of-parts ps k) ∙ sym (append_assoc p (text_of (take k ps)) (text_of (drop k ps)))

-- nothing was put
pub no_parts : (old : Option (List ℕ)) (f : ℕ) → (old ≡ added old (text_of [])) × (f ≤ f)
unfolding text_of
no_parts old f = puts_nothing old f

-- a part is put where those before it were
pub puts_part : (parts : List (List ℕ)) (k : ℕ) (part : List ℕ) (old mid new : Option (List ℕ)) (f g h : ℕ) → slice_get parts k ≡ Some part → (mid ≡ added old (text_of (take k parts))) × (f ≤ g) → (new ≡ added mid part) × (g ≤ h) → (new ≡ added old (text_of (take (k + 1) parts))) × (f ≤ h)
puts_part parts k part old mid new f g h is before now =
    let n : k + 1 ≡ suc k = omega arith in
    rw (n, text_of-take parts k part is) (puts_then {X = Unit {0}} old mid new f g h (Ok tt) (text_of (take k parts)) part before now)

-- a part was cut short where those before it were put
pub stops_at_part : (parts : List (List ℕ)) (k : ℕ) (part : List ℕ) (old mid new : Option (List ℕ)) (f g h : ℕ) → slice_get parts k ≡ Some part → (mid ≡ added old (text_of (take k parts))) × (f ≤ g) → AddsFront mid new part × CountRose g h × (g ≤ h) → AddsFront old new (text_of parts) × CountRose f h × (f ≤ h)
stops_at_part parts k part old mid new f g h is before now =
    let fault : SinkFault = record {} in
    let so_far = puts_then {X = Unit {0}} old mid new f g h (Err fault) (text_of (take k parts)) part before now in
    let whole : text_of parts ≡ (text_of (take k parts) ++ part) ++ text_of (drop (suc k) parts) = text_of-parts parts (suc k) ∙ ap (λ (t : List ℕ). t ++ text_of (drop (suc k) parts)) (text_of-take parts k part is) in
    (subst (AddsFront old new) (sym whole) (puts_stop old new _ _ so_far.0), so_far.1, so_far.2)

-- all parts are put
pub all_parts : (parts : List (List ℕ)) (k : ℕ) → length parts ≤ k → text_of (take k parts) ≡ text_of parts
all_parts parts k le = ap text_of (take_all k parts le)

-- the last part is put, or cut short, where those before it were put
pub puts_last : {X : Type 0} (parts : List (List ℕ)) (k : ℕ) (part : List ℕ) (old mid new : Option (List ℕ)) (f g h : ℕ) (r : Result X SinkFault) → slice_get parts k ≡ Some part → length parts ≤ k + 1 → (mid ≡ added old (text_of (take k parts))) × (f ≤ g) → Puts mid new g h r part → Puts old new f h r (text_of parts)
puts_last parts k part old mid new f g h (Ok x) is last before now = rw (← all_parts parts (k + 1) last) (puts_part parts k part old mid new f g h is before now)
puts_last parts k part old mid new f g h (Err e) is last before now = stops_at_part parts k part old mid new f g h is before now
