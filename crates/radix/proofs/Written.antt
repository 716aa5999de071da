-- What writes have written, and what they count.
use Rattle.std.proofs.lemmas.Bool.{false≢true}
use Rattle.std.proofs.Common.{◌≡◌, ◌+◌, ◌-◌, ◌≤◌, ◌++◌, ℕ, List, [], Option, None, Result, Ok, Err, OnErr, IsErr, length, take, drop, refl, sym, ap, subst, ◌∙◌, arith, length-take, length-append}
use lib.Seq.{take-add, take-take}
use Rattle.std.proofs.Math.Seq.{take-append-add}
use Rattle.std.specs.Io.KnownBytes.{Appends, Keeps}
use Rattle.std.proofs.KnownBytes.{Appends-trans, Appends-kept}
use Rattle.outer_io.specs.Counts.{one_fault_more}
use Rattle.outer_io.specs.Outside.{AddsFront, Puts, CountRose}
use Rattle.outer_io.specs.declared.sink.SinkFault.{SinkFault}
use Rattle.radix.specs.Outgoing.{AppendsFront, CountsFault}

-- one write more
pub writes_on : (a b c : Option (List ℕ)) (xs : List ℕ) (done n to : ℕ) → done ≤ length xs → n ≤ length (take (length xs - done) (drop done xs)) → to ≡ done + n
    → Appends a b (take done xs) → Appends b c (take n (take (length xs - done) (drop done xs)))
    → (to ≤ length xs) × Appends a c (take to xs)
writes_on a b c xs done n to within fits is before more =
    let most = length-take (length xs - done) (drop done xs) in
    let joined = ap (λ l. take done xs ++ l) (take-take n (length xs - done) (drop done xs) (omega arith)) ∙ sym (take-add done n xs) ∙ ap (λ k. take k xs) (sym is) in
    (omega arith, subst (Appends _ _) joined (Appends-trans _ _ _ _ _ before more))

-- a write that is made again
pub writes_again : (a b c : Option (List ℕ)) (xs : List ℕ) (done to : ℕ) → done ≤ length xs → to ≡ done → Appends a b (take done xs) → Keeps b c
    → (to ≤ length xs) × Appends a c (take to xs)
writes_again a b c xs done to within is before kept =
    (omega arith, subst (λ k. Appends a c (take k xs)) (sym is) (Appends-kept _ _ _ _ before kept))

-- a front of a piece after all of another is a front of both
pub front_behind : (a b c : Option (List ℕ)) (xs ys : List ℕ) → Appends a b xs → AppendsFront b c ys → AppendsFront a c (xs ++ ys)
front_behind a b c xs ys before more = record {
  count = length xs + more.count;
  within = (let within = more.within in omega (arith, length-append xs ys));
  front = subst (Appends a c) (sym (take-append-add xs ys more.count)) (Appends-trans _ _ _ _ _ before more.front);
}

-- a fault that was counted shows
pub rose : (before after : ℕ) → after ≡ one_fault_more before → CountRose before after
rose before after is = grind (arith, is)

-- a front of a piece after what waited
pub err_behind : {X E : Type 0} (r : Result X E) (a a' b b' c : Option (List ℕ)) (xs xs' ys : List ℕ) → a' ≡ a → xs' ≡ xs → b' ≡ b
    → Appends a' b xs' → OnErr r (AppendsFront b' c ys) → OnErr r (AppendsFront a c (xs ++ ys))
err_behind (Ok _) a a' b b' c xs xs' ys at_a at_xs at_b before more = tt
err_behind (Err _) a a' b b' c xs xs' ys at_a at_xs at_b before more =
    front_behind a b c xs ys (subst (λ l. Appends a b l) at_xs (subst (λ o. Appends o b xs') at_a before)) (subst (λ o. AppendsFront o c ys) at_b more)

-- what an untold sink says of a fault, by its count alone
pub cut_untold : (before after : ℕ) (bytes : List ℕ) → after ≡ one_fault_more before → before ≤ after
    → AddsFront None None bytes × CountRose before after × (before ≤ after)
cut_untold before after bytes is counts =
    (record { front = []; rest = bytes; parts = refl; after = refl }, rose before after is, counts)

-- what it says of a put
pub puts_untold : {X : Type 0} (r : Result X SinkFault) (before after : ℕ) (bytes : List ℕ) → CountsFault before after r → Puts None None before after r bytes
puts_untold (Ok _) before after bytes is = (refl, omega arith)
puts_untold (Err _) before after bytes (is, counts) = cut_untold before after bytes is counts

-- what it says of a put that failed once nothing was counted
pub puts_err : {X : Type 0} (r : Result X SinkFault) (before start after : ℕ) (bytes : List ℕ) → IsErr r → start ≡ before
    → (after ≡ one_fault_more start) × (start ≤ after) → Puts None None before after r bytes
puts_err (Ok _) before start after bytes wrong same counts = absurd (false≢true wrong)
puts_err (Err _) before start after bytes _ same (is, counts) = cut_untold before after bytes (is ∙ ap one_fault_more same) (omega (arith, same))
