-- A register that was set is read back, and every other one has what it had.
use Rattle.std.proofs.Common.{◌≡◌, ℕ, ◌<◌, ◌==◌, if◌then◌else◌, List, length, slice_index, slice_set, refl, sym, ap, ◌∙◌, arith}
use Rattle.std.proofs.lemmas.List.{get_or-set_same, get_or-set_other}
use Rattle.ppc_spr.specs.declared.msr.Msr.{Msr}
use Rattle.thread_regs.specs.Registers.{with_gpr, with_cr, with_msr, with_nia}
use Rattle.ppc_spr.specs.Profile.{msr_of}
use Rattle.thread_regs.specs.Laws.{ASetRegisterIsReadBack}
use Rattle.thread_regs.specs.Laws.Register.{General, Condition, MachineState, NextAddress, Special}
use Rattle.thread_regs.proofs.SpecialsLemmas.{equal, apart, chosen, special_read_back, same_specials, same_gpr, same_cr, same_msr, same_nia}

general_read_back : (xs : List ℕ) (n m v : ℕ) → n < length xs → slice_index (slice_set xs n v) m ≡ (if n == m then v else slice_index xs m)
general_read_back xs n m v l =
    chosen (n == m) v (slice_index xs m) (slice_index (slice_set xs n v) m)
    (λ e. ap (λ i. slice_index (slice_set xs n v) i) (sym (equal n m e)) ∙ get_or-set_same xs n v 0 l)
    (λ e. get_or-set_other xs n m v 0 (λ same. apart n m e (sym same)))

pub set_then_read : ASetRegisterIsReadBack
set_then_read t (General n) (General m) v count a b l = general_read_back t.gpr n m v (omega (arith, count, a))
set_then_read t (General n) Condition v count a b l = refl
set_then_read t (General n) MachineState v count a b l = refl
set_then_read t (General n) NextAddress v count a b l = refl
set_then_read t (General n) (Special s) v count a b l = same_specials (with_gpr t n v) t refl s
set_then_read t Condition (General m) v count a b l = refl
set_then_read t Condition Condition v count a b l = refl
set_then_read t Condition MachineState v count a b l = refl
set_then_read t Condition NextAddress v count a b l = refl
set_then_read t Condition (Special s) v count a b l = same_specials (with_cr t v) t refl s
set_then_read t MachineState (General m) v count a b l = refl
set_then_read t MachineState Condition v count a b l = refl
set_then_read t MachineState MachineState v count a b l = refl
set_then_read t MachineState NextAddress v count a b l = refl
set_then_read t MachineState (Special s) v count a b l = same_specials (with_msr t (msr_of v)) t refl s
set_then_read t NextAddress (General m) v count a b l = refl
set_then_read t NextAddress Condition v count a b l = refl
set_then_read t NextAddress MachineState v count a b l = refl
set_then_read t NextAddress NextAddress v count a b l = refl
set_then_read t NextAddress (Special s) v count a b l = same_specials (with_nia t v) t refl s
set_then_read t (Special s) (General m) v count a b l = ap (λ (xs : List ℕ). slice_index xs m) (same_gpr t s v)
set_then_read t (Special s) Condition v count a b l = same_cr t s v
set_then_read t (Special s) MachineState v count a b l = ap (λ (m : Msr). m.0) (same_msr t s v)
set_then_read t (Special s) NextAddress v count a b l = same_nia t s v
set_then_read t (Special r) (Special s) v count a b l = special_read_back t r s v l
