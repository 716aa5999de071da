-- Room in journals for more or fewer steps.
use Rattle.std.proofs.Common.{◌≡◌, ℕ, ◌≤◌, nat_lt, nat_le, Bool, true, false, if◌then◌else◌, Option, Some, None, refl, arith}
use Rattle.std.proofs.lemmas.Bool.Decides.{nat_tests}
use Rattle.journal_core.specs.Rows.{Rows}
use Rattle.journal_core.specs.Room.{HasRoom, read_places, fill_places, write_places, done_places, device_places}

cut : {X : Type 0} (b : Bool) (x : X) (rest : Option X) → (if b then Some x else rest) ≡ None → (b ≡ false) × (rest ≡ None)
cut true x rest none = cc
cut false x rest none = (refl, none)

joined : {X : Type 0} (b : Bool) (x : X) (rest : Option X) → b ≡ false → rest ≡ None → (if b then Some x else rest) ≡ None
joined b x rest off none = rw (off, none) refl

fewer : (a b c : ℕ) → a ≤ b → nat_lt a c ≡ false → nat_lt b c ≡ false
fewer a b c more off = grind (arith, nat_tests)

fewer_steps : (a b c : ℕ) → a ≤ b → nat_le a c ≡ false → nat_le b c ≡ false
fewer_steps a b c more off = grind (arith, nat_tests)

-- room in a journal for fewer steps is room in one for more
pub HasRoom-more : (n m : ℕ) (j : Rows) → n ≤ m → HasRoom n j → HasRoom m j
HasRoom-more n m j more room =
    let reads = cut _ _ _ room in
    let fills = cut _ _ _ reads.1 in
    let writes = cut _ _ _ fills.1 in
    let dones = cut _ _ _ writes.1 in
    let devices = cut _ _ _ dones.1 in
    let steps = cut _ _ _ devices.1 in
    joined _ _ _ (fewer (read_places n) (read_places m) _ (omega (arith, more)) reads.0)
    (joined _ _ _ (fewer (fill_places n) (fill_places m) _ (omega (arith, more)) fills.0)
    (joined _ _ _ (fewer (write_places n) (write_places m) _ (omega (arith, more)) writes.0)
    (joined _ _ _ (fewer (done_places n) (done_places m) _ (omega (arith, more)) dones.0)
    (joined _ _ _ (fewer (device_places n) (device_places m) _ (omega (arith, more)) devices.0)
    (joined _ _ _ (fewer_steps n m _ more steps.0) refl)))))
