-- The names of operations with their marks: the assembler reads each of them back, and none is a directive.
use Rattle.std.proofs.Common.{◌≡◌, Bool, true, false, List, Option, Some, None, eqb, ◌&&◌, not, if◌then◌else◌, refl, ap, ◌∙◌}
use Rattle.std.specs.List.{list_all}
use Rattle.ppc_ops.specs.declared.op.Op.{Op}
use Rattle.ppc_ops.specs.Table.{operations}
use Rattle.ppc_ops.proofs.Apart.{both, same_number}
use Rattle.ppc_ops.proofs.Listed.{number, same_op, each}
use Rattle.operand_texts.specs.declared.mnemonic.Mnemonic.{Mnemonic}
use Rattle.operand_texts.specs.Mnemonics.{marked, takes_marks}
use Rattle.asm_statements.specs.declared.statement.Directive.{Directive}
use Rattle.asm_statements.specs.Mnemonics.{name_among, all_operations, mnemonic_of}
use Rattle.asm_statements.specs.Statements.{directive_of}
use Rattle.ppc_disasm.specs.Texts.{mnemonic_text}

abbrev pub with_either : (Bool → Bool) → Bool
with_either p = p true && p false

-- a test that an operation passes with each choice of marks, those too that it does not take
abbrev pub with_all_marks : (Mnemonic → Bool) → Op → Bool
with_all_marks p op = with_either (λ oe. with_either (λ rc. with_either (λ lk. with_either (λ aa. p (marked op oe rc lk aa)))))

either : (p : Bool → Bool) → with_either p ≡ true → (b : Bool) → p b ≡ true
either p h true = (both (p true) (p false) h).0
either p h false = (both (p true) (p false) h).1

-- a test that all operations pass with all marks
pub each_marked : (p : Mnemonic → Bool) → list_all (with_all_marks p) operations ≡ true → (m : Mnemonic) → p m ≡ true
each_marked p h m =
    let oe = either (λ oe. with_either (λ rc. with_either (λ lk. with_either (λ aa. p (marked m.op oe rc lk aa))))) (each (with_all_marks p) h m.op) m.oe in
    let rc = either (λ rc. with_either (λ lk. with_either (λ aa. p (marked m.op m.oe rc lk aa)))) oe m.rc in
    let lk = either (λ lk. with_either (λ aa. p (marked m.op m.oe m.rc lk aa))) rc m.lk in
    either (λ aa. p (marked m.op m.oe m.rc m.lk aa)) lk m.aa

abbrev agree : Bool → Bool → Bool
agree true b = b
agree false b = not b

agree_same : (a b : Bool) → agree a b ≡ true → a ≡ b
agree_same true true h = refl
agree_same true false h = cc
agree_same false true h = cc
agree_same false false h = refl

-- what was found is this operation with these marks
abbrev is_this : Mnemonic → Option Mnemonic → Bool
is_this m None = false
is_this m (Some n) = eqb (number n.op) (number m.op) && (agree n.oe m.oe && (agree n.rc m.rc && (agree n.lk m.lk && agree n.aa m.aa)))

this_one : (m : Mnemonic) (o : Option Mnemonic) → is_this m o ≡ true → o ≡ Some m
this_one m None h = cc
this_one m (Some n) h =
    let op = both (eqb (number n.op) (number m.op)) (agree n.oe m.oe && (agree n.rc m.rc && (agree n.lk m.lk && agree n.aa m.aa))) h in
    let oe = both (agree n.oe m.oe) (agree n.rc m.rc && (agree n.lk m.lk && agree n.aa m.aa)) op.1 in
    let rc = both (agree n.rc m.rc) (agree n.lk m.lk && agree n.aa m.aa) oe.1 in
    let lk = both (agree n.lk m.lk) (agree n.aa m.aa) rc.1 in
    let same : marked n.op n.oe n.rc n.lk n.aa ≡ marked m.op m.oe m.rc m.lk m.aa =
    ap (λ x. marked x n.oe n.rc n.lk n.aa) (same_op n.op m.op (same_number (number n.op) (number m.op) op.0))
    ∙ ap (λ x. marked m.op x n.rc n.lk n.aa) (agree_same n.oe m.oe oe.0)
    ∙ ap (λ x. marked m.op m.oe x n.lk n.aa) (agree_same n.rc m.rc rc.0)
    ∙ ap (λ x. marked m.op m.oe m.rc x n.aa) (agree_same n.lk m.lk lk.0)
    ∙ ap (λ x. marked m.op m.oe m.rc m.lk x) (agree_same n.aa m.aa lk.1) in
    ap Some same

-- a name, where it is one, is found among those of the operations
abbrev is_found : List Op → Mnemonic → Bool
is_found ops m = if takes_marks m then is_this m (name_among ops (mnemonic_text m)) else true

-- computed for the whole table
all_found : list_all (with_all_marks (is_found all_operations)) operations ≡ true
unfolding all_operations
all_found = refl

-- the assembler reads the name of an operation with marks that it takes as that operation with those marks
pub names_read : (m : Mnemonic) → takes_marks m ≡ true → mnemonic_of (mnemonic_text m) ≡ Some m
names_read m h =
    let found : is_this m (mnemonic_of (mnemonic_text m)) ≡ true = taken (takes_marks m) (is_this m (mnemonic_of (mnemonic_text m))) h (each_marked (is_found all_operations) all_found m) in
    this_one m (mnemonic_of (mnemonic_text m)) found
  where
    taken : (t found : Bool) → t ≡ true → (if t then found else true) ≡ true → found ≡ true
    taken true found h e = e
    taken false found h e = cc

abbrev is_none : Option Directive → Bool
is_none None = true
is_none (Some directive) = false

abbrev names_nothing : Mnemonic → Bool
names_nothing m = is_none (directive_of (mnemonic_text m))

-- no operation's name is a directive
pub no_directive : (m : Mnemonic) → directive_of (mnemonic_text m) ≡ None
no_directive m = nothing (directive_of (mnemonic_text m)) (each_marked names_nothing refl m)
  where
    nothing : (o : Option Directive) → is_none o ≡ true → o ≡ None
    nothing None h = refl
    nothing (Some directive) h = cc
