use Rattle.std.proofs.Common.{◌∷◌, ◌++◌, [], ap, sym, subst, ◌∙◌}
use Rattle.asm_places.specs.Names.{defined, is_defined}
use Rattle.asm_places.specs.Keeping.{AreSmall}
use Rattle.asm_places.proofs.Named.{definitions, definitions_after, AreSmall-push}
use Rattle.asm_places.proofs.names.Names.define.Goals as goal
use Rattle.asm_places.proofs.names.Names.define.Goals.{in-Ok, in-Err}

pub invariant_of-self : goal.invariant_of-self
invariant_of-self c =
    let new = ap (λ ds. is_defined ds c.args.name.now) c.self.view_is ∙ c.requires.new in
    elim c.match-insert.branch [
      | in-Ok w ↦
          let e = definitions_after c.self.inside.map c.insert.new.self c.args.name c.args.value new c.requires.small w.in-Ok.ensures.entries in
          let all = AreSmall-push (definitions c.self.inside.map.entries) (defined c.args.name.now c.args.value) c.self.invariant.values c.requires.small in
          record { values = subst AreSmall (sym e) all }
      | in-Err w ↦ record { values = subst (λ es. AreSmall (definitions es)) (sym w.in-Err.ensures.err) c.self.invariant.values }
    ]

pub returns : goal.returns
returns c =
    let new = ap (λ ds. is_defined ds c.args.name.now) c.self.view_is ∙ c.requires.new in
    elim c.match-insert.branch [
      | in-Ok w ↦
          let e = definitions_after c.self.inside.map c.insert.new.self c.args.name c.args.value new c.requires.small w.in-Ok.ensures.entries in
          let all = e ∙ ap (λ ds. ds ++ defined c.args.name.now c.args.value ∷ []) c.self.view_is in
          rw w.result-is all
      | in-Err w ↦ rw w.result-is tt
    ]
