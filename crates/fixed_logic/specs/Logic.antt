-- What logic instructions leave: logical operations, extensions, counts (Power ISA, Book I, 3.3.13), shifts and rotations (3.3.14).
use Rattle.std.specs.Prelude.{◌≡◌, ℕ, ◌-◌, ◌*◌, ◌^◌, Bool, true, false, if◌then◌else◌, Some, None}
use Rattle.ppc_bits.specs.Bits.{mask_of}
use Rattle.ppc_ops.specs.declared.op.Op.{Op}
use Rattle.ppc_ops.specs.declared.op.Op.TheVariants.{Ori, Oris, Xori, Xoris, AndiDot, AndisDot, And, Or, Xor, Nand, Nor, Eqv, Andc, Orc, Slw, Srw, Sraw, Sld, Srd, Srad, Extsb, Extsh, Extsw, Cntlzw, Cntlzd, Cnttzw, Cnttzd, Popcntb, Popcntw, Popcntd, Prtyw, Prtyd, Cmpb, Bpermd, Srawi, Sradi, Extswsli, Rlwimi, Rlwinm, Rlwnm, Rldicl, Rldicr, Rldic, Rldimi, Rldcl, Rldcr}
use Rattle.ppc_ops.specs.declared.insn.Insn.{Insn}
use Rattle.ppc_ops.specs.declared.insn.Insn.TheVariants as insn
use Rattle.ppc_ops.specs.declared.results.Xer.{Xer}
use Rattle.ppc_ops.specs.declared.results.ArithOut.{ArithOut}
use Rattle.ppc_ops.specs.Results.{record_of}
use Rattle.fixed_logic.specs.Bitwise.{and_of, or_of, xor_of, nand_of, nor_of, eqv_of, andc_of, orc_of}
use Rattle.fixed_logic.specs.Shifts.{extended, word_distance, distance, shifted_left, shifted_right, shifted_extended, shifted_signed, loses_one}
use Rattle.fixed_logic.specs.Rotates.{inserted, turned_word, turned, word_mask, word_turn, turn}
use Rattle.fixed_logic.specs.Counts.{cntlzw_of, cntlzd_of, cnttzw_of, cnttzd_of, popcntb_of, popcntw_of, popcntd_of, prtyw_of, prtyd_of}
use Rattle.fixed_logic.specs.Bytes.{cmpb_of, bpermd_of}

-- the instructions that this crate executes
abbrev pub is_logic : Insn → Bool
is_logic (insn.LogicImm op ra rs ui) = true
is_logic (insn.Logic op ra rs rb rc) = true
is_logic (insn.Unary op ra rs rc) = true
is_logic (insn.Count op ra rs) = true
is_logic (insn.Bytes op ra rs rb) = true
is_logic (insn.ShiftImm op ra rs sh rc) = true
is_logic (insn.RotWord op ra rs by mb me rc) = true
is_logic (insn.RotDouble op ra rs by edge rc) = true
is_logic other = false

abbrev pub IsLogic : Insn → Type 0
IsLogic i = is_logic i ≡ true

-- a value, the exception register, and the first field of the condition register where it is recorded
abbrev pub outcome : Bool → ℕ → Xer → ArithOut
outcome rc value xer = record { value = value; xer = xer; cr0 = if rc then Some (record_of value xer.so) else None }

-- a signed shift to the right by n: CA and CA32 tell whether the number is negative and a 1 is lost
abbrev pub signed_outcome : ℕ → ℕ → ℕ → Bool → Xer → ArithOut
signed_outcome w s n rc xer = outcome rc (shifted_signed w s n) (record xer { ca = loses_one w s n; ca32 = loses_one w s n })

-- The last line of each definition by operations is for those of other layouts. No instruction of this layout has one, so
-- it says nothing of any.
abbrev pub no_outcome : Xer → ArithOut
no_outcome xer = outcome false 0 xer

abbrev pub immediate_of : Op → ℕ → ℕ → Xer → ArithOut
immediate_of Ori s ui xer = outcome false (or_of s ui) xer
immediate_of Oris s ui xer = outcome false (or_of s (ui * 2 ^ 16)) xer
immediate_of Xori s ui xer = outcome false (xor_of s ui) xer
immediate_of Xoris s ui xer = outcome false (xor_of s (ui * 2 ^ 16)) xer
immediate_of AndiDot s ui xer = outcome true (and_of s ui) xer
immediate_of AndisDot s ui xer = outcome true (and_of s (ui * 2 ^ 16)) xer
immediate_of op s ui xer = no_outcome xer

abbrev pub registers_of : Op → ℕ → ℕ → Bool → Xer → ArithOut
registers_of And s b rc xer = outcome rc (and_of s b) xer
registers_of Or s b rc xer = outcome rc (or_of s b) xer
registers_of Xor s b rc xer = outcome rc (xor_of s b) xer
registers_of Nand s b rc xer = outcome rc (nand_of s b) xer
registers_of Nor s b rc xer = outcome rc (nor_of s b) xer
registers_of Eqv s b rc xer = outcome rc (eqv_of s b) xer
registers_of Andc s b rc xer = outcome rc (andc_of s b) xer
registers_of Orc s b rc xer = outcome rc (orc_of s b) xer
registers_of Slw s b rc xer = outcome rc (shifted_left 32 s (word_distance b)) xer
registers_of Srw s b rc xer = outcome rc (shifted_right 32 s (word_distance b)) xer
registers_of Sraw s b rc xer = signed_outcome 32 s (word_distance b) rc xer
registers_of Sld s b rc xer = outcome rc (shifted_left 64 s (distance b)) xer
registers_of Srd s b rc xer = outcome rc (shifted_right 64 s (distance b)) xer
registers_of Srad s b rc xer = signed_outcome 64 s (distance b) rc xer
registers_of op s b rc xer = no_outcome xer

abbrev pub unary_of : Op → ℕ → Bool → Xer → ArithOut
unary_of Extsb s rc xer = outcome rc (extended 8 s) xer
unary_of Extsh s rc xer = outcome rc (extended 16 s) xer
unary_of Extsw s rc xer = outcome rc (extended 32 s) xer
unary_of Cntlzw s rc xer = outcome rc (cntlzw_of s) xer
unary_of Cntlzd s rc xer = outcome rc (cntlzd_of s) xer
unary_of Cnttzw s rc xer = outcome rc (cnttzw_of s) xer
unary_of Cnttzd s rc xer = outcome rc (cnttzd_of s) xer
unary_of op s rc xer = no_outcome xer

abbrev pub count_of : Op → ℕ → Xer → ArithOut
count_of Popcntb s xer = outcome false (popcntb_of s) xer
count_of Popcntw s xer = outcome false (popcntw_of s) xer
count_of Popcntd s xer = outcome false (popcntd_of s) xer
count_of Prtyw s xer = outcome false (prtyw_of s) xer
count_of Prtyd s xer = outcome false (prtyd_of s) xer
count_of op s xer = no_outcome xer

abbrev pub bytes_of : Op → ℕ → ℕ → Xer → ArithOut
bytes_of Cmpb s b xer = outcome false (cmpb_of s b) xer
bytes_of Bpermd s b xer = outcome false (bpermd_of s b) xer
bytes_of op s b xer = no_outcome xer

abbrev pub shift_of : Op → ℕ → ℕ → Bool → Xer → ArithOut
shift_of Srawi s sh rc xer = signed_outcome 32 s sh rc xer
shift_of Sradi s sh rc xer = signed_outcome 64 s sh rc xer
shift_of Extswsli s sh rc xer = outcome rc (shifted_extended 32 s sh) xer
shift_of op s sh rc xer = no_outcome xer

abbrev pub word_turn_of : Op → ℕ → ℕ → ℕ → ℕ → ℕ → ℕ → Bool → Xer → ArithOut
word_turn_of Rlwimi s b old by mb me rc xer = outcome rc (inserted (turned_word s by) (word_mask mb me) old) xer
word_turn_of Rlwinm s b old by mb me rc xer = outcome rc (inserted (turned_word s by) (word_mask mb me) 0) xer
word_turn_of Rlwnm s b old by mb me rc xer = outcome rc (inserted (turned_word s (word_turn b)) (word_mask mb me) 0) xer
word_turn_of op s b old by mb me rc xer = no_outcome xer

abbrev pub turn_of : Op → ℕ → ℕ → ℕ → ℕ → ℕ → Bool → Xer → ArithOut
turn_of Rldicl s b old by edge rc xer = outcome rc (inserted (turned s by) (mask_of edge 63) 0) xer
turn_of Rldicr s b old by edge rc xer = outcome rc (inserted (turned s by) (mask_of 0 edge) 0) xer
turn_of Rldic s b old by edge rc xer = outcome rc (inserted (turned s by) (mask_of edge (63 - by)) 0) xer
turn_of Rldimi s b old by edge rc xer = outcome rc (inserted (turned s by) (mask_of edge (63 - by)) old) xer
turn_of Rldcl s b old by edge rc xer = outcome rc (inserted (turned s (turn b)) (mask_of edge 63) 0) xer
turn_of Rldcr s b old by edge rc xer = outcome rc (inserted (turned s (turn b)) (mask_of 0 edge) 0) xer
turn_of op s b old by edge rc xer = no_outcome xer

-- what a logic instruction leaves: s is the value of RS, b that of RB, old that of RA before
unfoldable pub logic_of : Insn → ℕ → ℕ → ℕ → Xer → ArithOut
logic_of (insn.LogicImm op ra rs ui) s b old xer = immediate_of op s ui xer
logic_of (insn.Logic op ra rs rb rc) s b old xer = registers_of op s b rc xer
logic_of (insn.Unary op ra rs rc) s b old xer = unary_of op s rc xer
logic_of (insn.Count op ra rs) s b old xer = count_of op s xer
logic_of (insn.Bytes op ra rs rb) s b old xer = bytes_of op s b xer
logic_of (insn.ShiftImm op ra rs sh rc) s b old xer = shift_of op s sh rc xer
logic_of (insn.RotWord op ra rs by mb me rc) s b old xer = word_turn_of op s b old by mb me rc xer
logic_of (insn.RotDouble op ra rs by edge rc) s b old xer = turn_of op s b old by edge rc xer
logic_of other s b old xer = no_outcome xer
