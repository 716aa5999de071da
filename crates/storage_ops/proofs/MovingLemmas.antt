-- Numbers whose bytes stand in the other order.
use Rattle.std.proofs.Common.{◌≡◌, ℕ, zero, suc, ◌+◌, ◌*◌, ◌%◌, ◌^◌, ◌<◌, true, refl, sym, ap, ◌∙◌, arith, pow-add}
use Rattle.std.proofs.Math.Nat.{pow-succ', mod-eq_of_lt}
use Rattle.std.specs.Int.{w64, swap_bytes}
use Rattle.journal_core.specs.Bytes.{le_bytes, be_value}
use Rattle.journal_core.proofs.BytesLemmas.{length-le_bytes, IsBytes-le_bytes, le_value-le_bytes}
use Rattle.real_store.proofs.NumberLemmas.{turned}
use Rattle.ppc_bits.specs.Bits.{modulo, signed_of}
use Rattle.storage_ops.specs.declared.forms.AccessForm.{AccessForm}
use Rattle.storage_ops.specs.Forms.{reversed_bytes, ordered, loaded}

-- of eight bytes
pub reversed-eight : (value : ℕ) → value < 256 ^ 8 → swap_bytes w64 value ≡ reversed_bytes 8 value
reversed-eight value fits =
    ap (λ (n : ℕ). swap_bytes w64 n) (sym (le_value-le_bytes 8 value fits)) ∙ turned (le_bytes 8 value) (IsBytes-le_bytes 8 value) (length-le_bytes 8 value)

-- of one byte
pub reversed-one : (value : ℕ) → value < 256 → reversed_bytes 1 value ≡ value
unfolding le_bytes be_value
reversed-one value fits = omega arith

-- so many bytes have eight times so many bits
pub bits-of-bytes : (size : ℕ) → 2 ^ (8 * size) ≡ 256 ^ size
bits-of-bytes zero = refl
bits-of-bytes (suc size) =
    let one_more : 8 * suc size ≡ 8 + 8 * size = omega arith in
    ap (λ (e : ℕ). 2 ^ e) one_more ∙ pow-add 2 8 (8 * size) ∙ ap (λ (p : ℕ). 256 * p) (bits-of-bytes size) ∙ sym (pow-succ' 256 size)

-- a number that is extended by its sign
pub loaded-signed : (form : AccessForm) (value number : ℕ) → form.signed ≡ true → number ≡ ordered form value → number < 256 ^ form.size →
    modulo 64 (signed_of (8 * form.size) number) ≡ loaded form value
loaded-signed form value number signed is below =
    let low : number % 2 ^ (8 * form.size) ≡ number = mod-eq_of_lt (rw (bits-of-bytes form.size) below) in
    rw (signed, sym is) (ap (λ (n : ℕ). modulo 64 (signed_of (8 * form.size) n)) (sym low))
