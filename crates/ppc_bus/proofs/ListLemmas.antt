use Rattle.std.proofs.Common.{◌≡◌, ◌↔◌, ℕ, zero, suc, ◌<◌, List, [], ◌∷◌, length, slice_index_or, slice_set, Option, Some, None, IsSome, refl, sym, ap, ◌∙◌, arith}
use Rattle.ppc_bus.specs.declared.slots.Slot.{Slot}
use Rattle.ppc_bus.specs.Slots.{slot_in, device_in}

-- what a lookup of a list gives is what stands there
pub slot_in-at : {A : Type 0} (xs : List (Option A)) (k : ℕ) (x : Option A) → k < length xs → x ≡ slice_index_or xs k x → slot_in xs k ≡ x
unfolding slot_in
slot_in-at [] k x less is = absurd (omega arith)
slot_in-at (y ∷ xs) zero x less is = sym is
slot_in-at (y ∷ xs) (suc k) x less is = slot_in-at xs k x (omega arith) is

-- a slot with a device is within the list
pub slot_in-within : {A : Type 0} (xs : List (Option A)) (k : ℕ) → IsSome (slot_in xs k) → k < length xs
unfolding slot_in
slot_in-within [] k some = cc
slot_in-within (y ∷ xs) zero some = omega arith
slot_in-within (y ∷ xs) (suc k) some = let less = slot_in-within xs k some in omega arith

-- past the end there is none
pub slot_in-past : {A : Type 0} (xs : List (Option A)) (k : ℕ) → (k < length xs → ⊥) → slot_in xs k ≡ None
unfolding slot_in
slot_in-past [] k past = refl
slot_in-past (y ∷ xs) zero past = absurd (past (omega arith))
slot_in-past (y ∷ xs) (suc k) past = slot_in-past xs k (λ less. past (omega arith))

pred_or : ℕ → ℕ
pred_or zero = 0
pred_or (suc n) = n

suc_same : (j k : ℕ) → suc j ≡ suc k → j ≡ k
unfolding pred_or
suc_same j k same = ap pred_or same

-- what stands in a list of which one slot was set: there the new one, elsewhere what stood there
pub slot_in-set : {A : Type 0} (xs : List (Option A)) (k j : ℕ) (x : Option A) (P : Option A → Type 0) → k < length xs → (j ≡ k → P x) → ((j ≡ k → ⊥) → P (slot_in xs j)) → P (slot_in (slice_set xs k x) j)
unfolding slot_in
slot_in-set [] k j x P less here there = absurd (omega arith)
slot_in-set (y ∷ xs) zero zero x P less here there = here refl
slot_in-set (y ∷ xs) zero (suc j) x P less here there = there (λ same. omega (arith, same))
slot_in-set (y ∷ xs) (suc k) zero x P less here there = there (λ same. omega (arith, same))
slot_in-set (y ∷ xs) (suc k) (suc j) x P less here there = slot_in-set xs k j x P (omega arith) (λ same. here (ap suc same)) (λ other. there (λ same. other (suc_same j k same)))

-- an element that a lookup gave has a device
pub some_at : {A : Type 0} (xs ys : List (Option A)) (k : ℕ) (x : Option A) → xs ≡ ys → IsSome (slot_in ys k) → x ≡ slice_index_or xs k x → IsSome x
some_at xs ys k x same some is = rw (← slot_in-at ys k x (slot_in-within ys k some) (is ∙ ap (λ l. slice_index_or l k x) same)) some

-- a slot with a device is found
pub never_past : {A : Type 0} (xs ys : List (Option A)) (k : ℕ) → xs ≡ ys → IsSome (slot_in ys k) → k < length xs
never_past xs ys k same some = rw same (slot_in-within ys k some)

-- a lookup gives an element exactly within the list
pub got : {A : Type 0} (r : Option A) (x : A) (P : Type 0) → r ≡ Some x → (IsSome r ↔ P) → P
got None x P is within = cc
got (Some y) x P is within = within.0 refl

pub not_got : {A : Type 0} (r : Option A) (P : Type 0) → r ≡ None → (IsSome r ↔ P) → P → ⊥
not_got None P is within p = let some = within.1 p in cc
not_got (Some y) P is within p = cc

-- what is taken out of a slot
pub taken_past : {D : Type 0} (xs ys : List (Option (Slot D))) (k : ℕ) (r : Option D) → xs ≡ ys → (k < length xs → ⊥) → r ≡ None → r ≡ device_in (slot_in ys k)
taken_past xs ys k r same past is = is ∙ ap device_in (sym (slot_in-past ys k (λ less. past (rw same less))))

pub taken_at : {D : Type 0} (xs ys : List (Option (Slot D))) (k : ℕ) (x : Option (Slot D)) (r : Option D) → xs ≡ ys → k < length xs → x ≡ slice_index_or xs k x → r ≡ device_in x → r ≡ device_in (slot_in ys k)
taken_at xs ys k x r same less at is = is ∙ ap device_in (sym (slot_in-at xs k x less at) ∙ ap (λ l. slot_in l k) same)
