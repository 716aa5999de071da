-- Lists of forms.
use Rattle.std.specs.Prelude.{List, [], ◌∷◌}
use Rattle.ppc_ops.specs.declared.insn.Insn.{Insn}
use Rattle.ppc_ops.specs.Forms.{IsForm}

-- each instruction of a list is a form
abbrev pub AreForms : List Insn → Type 0
AreForms [] = Unit {0}
AreForms (i ∷ is) = IsForm i × AreForms is
