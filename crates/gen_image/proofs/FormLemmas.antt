-- The instructions of generated code are forms.
use Rattle.std.proofs.Common.{◌≡◌, ℕ, zero, suc, ◌+◌, ◌*◌, ◌/◌, ◌%◌, ◌^◌, ◌<◌, ◌≤◌, List, [], ◌∷◌, ◌++◌, length, get_or, Some, refl, sym, subst, arith, rules}
use Rattle.std.specs.Prelude.{pos, neg_ℤ}
use Rattle.std.specs.List.{flat_map, slice_get}
use Rattle.std.proofs.lemmas.Int.{ints}
use Rattle.std.proofs.lemmas.Bool.Decides.{nat_tests}
use Rattle.std.proofs.lemmas.Option.{none-some, same_Some}
use Rattle.ppc_ops.specs.declared.insn.Insn.{Insn}
use Rattle.ppc_ops.specs.Fitting.{IsSigned, IsSignedMultiple}
use Rattle.ppc_ops.specs.Forms.{IsForm}
use Rattle.gen_image.specs.Code.{handler, beginning, page_address, visit, call_and_return, guest_code, addis, ori}
use Rattle.gen_image.specs.Forms.{AreForms}
use Rattle.gen_image.proofs.DrawLemmas.{AreBelow}

pub handler-forms : AreForms handler
handler-forms = search rules

pub beginning-forms : AreForms beginning
beginning-forms = search rules

-- a number below 2 ^ 15 is a signed one of 16 bits
small-signed : (n : ℕ) → n < 2 ^ 15 → IsSigned 16 (pos n)
small-signed n h = grind (arith, nat_tests, ints)

pub visit-forms : (draw : ℕ) → draw < 256 → AreForms (visit draw)
visit-forms draw h =
    let high : page_address draw / 2 ^ 16 < 2 ^ 15 = omega arith in
    let low : page_address draw % 2 ^ 16 < 2 ^ 16 = omega arith in
    let first : IsForm (addis 6 0 (pos (page_address draw / 2 ^ 16))) = ((refl, omega arith, omega arith, small-signed (page_address draw / 2 ^ 16) high), refl) in
    let second : IsForm (ori 6 6 (page_address draw % 2 ^ 16)) = ((refl, omega arith, omega arith, low), refl) in
    (first, (second, search rules))

-- a distance back, of a multiple of 4 bytes
back-signed : (n m : ℕ) → n ≡ suc m → n ≤ 2 ^ 25 → n % 4 ≡ 0 → IsSignedMultiple 26 (neg_ℤ (pos n))
back-signed n m is h four = subst (λ (k : ℕ). IsSignedMultiple 26 (neg_ℤ (pos k))) (sym is) (grind (arith, nat_tests, ints), omega arith)

pub call_and_return-forms : (visits : ℕ) → visits ≤ 64 → AreForms (call_and_return visits)
call_and_return-forms visits h =
    let distance : IsSignedMultiple 26 (neg_ℤ (pos (20 * visits + 4))) = back-signed (20 * visits + 4) (20 * visits + 3) (omega arith) (omega arith) (omega arith) in
    ((omega arith, refl), ((distance, refl), tt))

forms-append : (a b : List Insn) → AreForms a → AreForms b → AreForms (a ++ b)
forms-append [] b f g = g
forms-append (i ∷ is) b f g = (f.0, forms-append is b f.1 g)

visits-forms : (draws : List ℕ) → AreBelow 64 draws → AreForms (flat_map visit draws)
visits-forms [] below = tt
visits-forms (d ∷ ds) below = forms-append (visit d) (flat_map visit ds) (visit-forms d (omega arith)) (visits-forms ds below.1)

pub guest_code-forms : (draws : List ℕ) → AreBelow 64 draws → length draws ≤ 64 → AreForms (guest_code draws)
guest_code-forms draws below few =
    forms-append (flat_map visit draws) (call_and_return (length draws)) (visits-forms draws below) (call_and_return-forms (length draws) few)

pub form-at : (code : List Insn) (k : ℕ) (i : Insn) → AreForms code → slice_get code k ≡ Some i → IsForm i
form-at [] k i forms is = absurd (none-some i is)
form-at (j ∷ js) zero i forms is = subst IsForm (same_Some j i is) forms.0
form-at (j ∷ js) (suc k) i forms is = form-at js k i forms.1 is

pub form-read : (code : List Insn) (k : ℕ) (d : Insn) → AreForms code → k < length code → IsForm (get_or code k d)
form-read [] k d forms below = absurd (omega arith)
form-read (j ∷ js) zero d forms below = forms.0
form-read (j ∷ js) (suc k) d forms below = form-read js k d forms.1 (omega arith)
