-- The instructions of a generated image.
use Rattle.std.specs.Prelude.{ℕ, ◌+◌, ◌*◌, ◌/◌, ◌%◌, ◌^◌, List, [], ◌∷◌, ◌++◌, length, flat_map, Bool, true, false, ℤ, pos, neg_ℤ}
use Rattle.std.specs.Int.{bytes_low_first}
use Rattle.ppc_ops.specs.declared.op.Op.TheVariants.{Addi, Addis, Xori, Ori, Rldicr, Stb, Ld, Std, Tlbie}
use Rattle.ppc_ops.specs.declared.insn.Insn.{Insn}
use Rattle.ppc_ops.specs.declared.insn.Insn.TheVariants as insn
use Rattle.ppc_decode.specs.Encode.{word_for}

-- instructions, with their operands in the order of assembler text
abbrev pub addi : ℕ → ℕ → ℤ → Insn
addi rt ra si = insn.AddImm Addi rt ra si

abbrev pub addis : ℕ → ℕ → ℤ → Insn
addis rt ra si = insn.AddImm Addis rt ra si

abbrev pub ori : ℕ → ℕ → ℕ → Insn
ori ra rs ui = insn.LogicImm Ori ra rs ui

abbrev pub xori : ℕ → ℕ → ℕ → Insn
xori ra rs ui = insn.LogicImm Xori ra rs ui

abbrev pub rldicr : ℕ → ℕ → ℕ → ℕ → Insn
rldicr ra rs sh me = insn.RotDouble Rldicr ra rs sh me false

abbrev pub ld : ℕ → ℕ → Insn
ld rt ra = insn.Access Ld rt ra (pos 0)

abbrev pub std : ℕ → ℕ → Insn
std rs ra = insn.Access Std rs ra (pos 0)

abbrev pub stb : ℕ → ℕ → Insn
stb rs ra = insn.Access Stb rs ra (pos 0)

abbrev pub mfspr : ℕ → ℕ → Insn
mfspr rt spr = insn.MfSpr rt spr

abbrev pub mtspr : ℕ → ℕ → Insn
mtspr spr rs = insn.MtSpr rs spr

abbrev pub tlbie : ℕ → ℕ → ℕ → Bool → Bool → Insn
tlbie rb rs ric prs r = insn.Inval Tlbie rb rs ric prs r

-- The hypervisor's handler of a guest's call, at C00: it removes all that is kept of the guest's partition, shows a byte on the
-- console, and goes to the other guest.
abbrev pub handler : List Insn
handler =
    mfspr 20 319 ∷
    insn.Sync 2 ∷
    tlbie 24 20 0 false true ∷
    insn.Eieio ∷
    insn.TlbSync ∷
    insn.Sync 2 ∷
    addi 21 21 (pos 1) ∷
    stb 21 22 ∷
    xori 20 20 3 ∷
    mtspr 319 20 ∷
    insn.Rfid ∷
    []

-- the hypervisor's start, at 10000: it sets up translation and goes to guest 1
abbrev pub beginning : List Insn
beginning =
    addis 4 0 (pos 2) ∷
    mtspr 464 4 ∷
    addi 4 0 (pos 1) ∷
    mtspr 319 4 ∷
    mtspr 48 4 ∷
    addis 22 0 (pos 4096) ∷
    addi 24 0 (pos 2048) ∷
    addi 5 0 (pos 20480) ∷
    mtspr 314 5 ∷
    addis 6 0 (neg_ℤ (pos 32768)) ∷
    rldicr 6 6 32 31 ∷
    ori 6 6 4147 ∷
    mtspr 315 6 ∷
    addis 7 0 (pos 592) ∷
    ori 7 7 1024 ∷
    mtspr 318 7 ∷
    insn.Hrfid ∷
    []

-- the first address of the page that a draw names: pages 16 and on
abbrev pub page_address : ℕ → ℕ
page_address draw = (16 + draw) * 4096

-- a doubleword of that page becomes 1 more
abbrev pub visit : ℕ → List Insn
visit draw =
    addis 6 0 (pos (page_address draw / 2 ^ 16)) ∷
    ori 6 6 (page_address draw % 2 ^ 16) ∷
    ld 7 6 ∷
    addi 7 7 (pos 1) ∷
    std 7 6 ∷
    []

-- a call of the hypervisor, and a branch back over that and so many visits
abbrev pub call_and_return : ℕ → List Insn
call_and_return visits = insn.Sc 1 ∷ insn.Jump (neg_ℤ (pos (20 * visits + 4))) false false ∷ []

-- a guest's code, at its address 5000: it visits a page for each draw, calls the hypervisor, and begins again
abbrev pub guest_code : List ℕ → List Insn
guest_code draws = flat_map visit draws ++ call_and_return (length draws)

-- the bytes of an instruction's word, the lowest first
abbrev pub insn_bytes : Insn → List ℕ
insn_bytes i = bytes_low_first 0 4 (word_for i)

-- the bytes of instructions
unfoldable pub code_bytes : List Insn → List ℕ
code_bytes code = flat_map insn_bytes code
