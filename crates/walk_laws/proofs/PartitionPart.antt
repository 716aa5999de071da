-- A walk of a partition's tree is part of the walk that wants it.
use Rattle.std.proofs.Common.{◌≡◌, ℕ, ◌-◌, List, [], ◌∷◌, inl, inr, ap, refl}
use Rattle.journal_core.specs.declared.rows.ReadRow.{ReadRow}
use Rattle.journal_core.specs.declared.walks.Goal.{Goal}
use Rattle.journal_core.specs.declared.walks.PartStage.{PartStage}
use Rattle.journal_core.specs.declared.walks.PartStage.TheVariants.{Entry, Tree, Ended}
use Rattle.journal_core.specs.PartitionWalk.{part_start, PartFollows, part_after, after_entry, after_tree}
use Rattle.journal_core.specs.Walk.{Task, inside, enter, stage_after}
use Rattle.journal_core.specs.Following.{Follows}
use Rattle.walk_laws.specs.WalkLaws.{BeginsWithPart}

record IsInside (k : Task) (goal : Goal) (gra : ℕ) (s : PartStage) (rs : List ReadRow) : Type 0 where
  follows : Follows k (inside k goal gra s) rs
  after : stage_after k (inside k goal gra s) rs ≡ inside k goal gra (part_after k.lpid gra s rs)

is-inside : (k : Task) (goal : Goal) (gra : ℕ) (s : PartStage) (rs : List ReadRow) → PartFollows k.lpid gra s rs → IsInside k goal gra s rs
unfolding inside
is-inside k goal gra s [] h = record { follows = tt; after = refl }
is-inside k goal gra (Entry at) (r ∷ rs) h =
    let rest : IsInside k goal gra (after_entry k.lpid gra r.value) rs = is-inside k goal gra (after_entry k.lpid gra r.value) rs h.1 in
    record { follows = (h.0, rest.follows); after = rest.after }
is-inside k goal gra (Tree n) (r ∷ rs) h =
    let rest : IsInside k goal gra (after_tree (n.left - n.size) n.level r.value) rs = is-inside k goal gra (after_tree (n.left - n.size) n.level r.value) rs h.1 in
    record { follows = (h.0, rest.follows); after = rest.after }
is-inside k goal gra (Ended o) (r ∷ rs) h = absurd h.0

pub part-inside : (k : Task) (goal : Goal) (gra : ℕ) (rs : List ReadRow) → PartFollows k.lpid gra (part_start k.ask.ptcr k.lpid) rs
    → Follows k (enter k goal gra) rs × (stage_after k (enter k goal gra) rs ≡ inside k goal gra (part_after k.lpid gra (part_start k.ask.ptcr k.lpid) rs))
part-inside k goal gra rs h =
    let e : IsInside k goal gra (part_start k.ask.ptcr k.lpid) rs = is-inside k goal gra (part_start k.ask.ptcr k.lpid) rs h in
    (e.follows, e.after)

split : (k : Task) (goal : Goal) (gra : ℕ) (s : PartStage) (rs : List ReadRow) → Follows k (inside k goal gra s) rs → BeginsWithPart k.lpid gra s rs
unfolding inside
split k goal gra (Entry at) [] h = record { part = []; later = []; parts = refl; follows = tt; ended = inl refl }
split k goal gra (Tree n) [] h = record { part = []; later = []; parts = refl; follows = tt; ended = inl refl }
split k goal gra (Ended o) rs h = record { part = []; later = rs; parts = refl; follows = tt; ended = inr (o, refl) }
split k goal gra (Entry at) (r ∷ rs) h =
    let rest : BeginsWithPart k.lpid gra (after_entry k.lpid gra r.value) rs = split k goal gra (after_entry k.lpid gra r.value) rs h.1 in
    record { part = r ∷ rest.part; later = rest.later; parts = ap (λ (xs : List ReadRow). r ∷ xs) rest.parts; follows = (h.0, rest.follows); ended = rest.ended }
split k goal gra (Tree n) (r ∷ rs) h =
    let rest : BeginsWithPart k.lpid gra (after_tree (n.left - n.size) n.level r.value) rs = split k goal gra (after_tree (n.left - n.size) n.level r.value) rs h.1 in
    record { part = r ∷ rest.part; later = rest.later; parts = ap (λ (xs : List ReadRow). r ∷ xs) rest.parts; follows = (h.0, rest.follows); ended = rest.ended }

pub begins-with-part : (k : Task) (goal : Goal) (gra : ℕ) (rs : List ReadRow) → Follows k (enter k goal gra) rs → BeginsWithPart k.lpid gra (part_start k.ask.ptcr k.lpid) rs
begins-with-part k goal gra rs h = split k goal gra (part_start k.ask.ptcr k.lpid) rs h
