-- What a partition's walk that begins with what is kept adds to a trail.
use Rattle.std.proofs.Common.{◌≡◌, ℕ, List, ◌++◌, map, Option, ap, sym, ◌∙◌, subst}
use Rattle.std.specs.Prelude.{◌↔◌}
use Rattle.journal_core.specs.declared.walks.PartResult.{PartResult}
use Rattle.journal_core.specs.declared.walks.TrailItem.{TrailItem}
use Rattle.journal_core.specs.declared.walks.TrailItem.TheVariants.{New}
use Rattle.journal_core.specs.Following.{FreshPartitionWalk}
use Rattle.journal_core.specs.Resumed.{KeptAnswers, KnowsNothing}
use Rattle.journal_core.specs.Fills.{new_rows}
use Rattle.journal_core.specs.PartResumed.{PartResumed}
use Rattle.walk_laws.proofs.FreshFacts.{new_rows_of}
use Rattle.walk_laws.proofs.PartResumedLemmas.{nothing_kept_is_fresh_part, part_resumed_is_one}
use Rattle.part_walk.specs.Adds.{AddsFreshWalk, AddsPart}

abbrev IsFreshPart : (ℕ → Option ℕ) → ℕ → ℕ → ℕ → ℕ → List TrailItem → PartResult → Type 0
IsFreshPart word moment ptcr lpid gra items out = (items ≡ map New (new_rows items)) × FreshPartitionWalk word moment ptcr lpid gra (new_rows items) out

-- where nothing is kept the walk is the fresh one
pub adds_fresh_walk : (word : ℕ → Option ℕ) (moment : ℕ) (a : KeptAnswers) (ptcr lpid gra : ℕ) (before after : List TrailItem) (out : PartResult) → KnowsNothing a → AddsPart word moment a ptcr lpid gra before after out → AddsFreshWalk word moment ptcr lpid gra before after out
adds_fresh_walk word moment a ptcr lpid gra before after out none h =
    let both : PartResumed word moment a ptcr lpid gra h.items out ↔ IsFreshPart word moment ptcr lpid gra h.items out = nothing_kept_is_fresh_part word moment a ptcr lpid gra h.items out none in
    let fresh : IsFreshPart word moment ptcr lpid gra h.items out = both.0 h.resumed in
    record { rs = new_rows h.items; appended = h.appended ∙ ap (λ (xs : List TrailItem). before ++ xs) fresh.0; fresh = fresh.1 }

pub fresh_adds_part : (word : ℕ → Option ℕ) (moment : ℕ) (a : KeptAnswers) (ptcr lpid gra : ℕ) (before after : List TrailItem) (out : PartResult) → KnowsNothing a → AddsFreshWalk word moment ptcr lpid gra before after out → AddsPart word moment a ptcr lpid gra before after out
fresh_adds_part word moment a ptcr lpid gra before after out none h =
    let both : PartResumed word moment a ptcr lpid gra (map New h.rs) out ↔ IsFreshPart word moment ptcr lpid gra (map New h.rs) out = nothing_kept_is_fresh_part word moment a ptcr lpid gra (map New h.rs) out none in
    let rows : new_rows (map New h.rs) ≡ h.rs = new_rows_of h.rs in
    let fresh : IsFreshPart word moment ptcr lpid gra (map New h.rs) out = (ap (λ xs. map New xs) (sym rows), subst (λ xs. FreshPartitionWalk word moment ptcr lpid gra xs out) (sym rows) h.fresh) in
    record { items = map New h.rs; appended = h.appended; resumed = both.1 fresh }

pub added_is_one : (word : ℕ → Option ℕ) (moment : ℕ) (a : KeptAnswers) (ptcr lpid gra : ℕ) (before xs ys : List TrailItem) (o p : PartResult) → AddsPart word moment a ptcr lpid gra before xs o → AddsPart word moment a ptcr lpid gra before ys p → (xs ≡ ys) × (o ≡ p)
added_is_one word moment a ptcr lpid gra before xs ys o p h g =
    let same : (h.items ≡ g.items) × (o ≡ p) = part_resumed_is_one word moment a ptcr lpid gra h.items g.items o p h.resumed g.resumed in
    (h.appended ∙ ap (λ (zs : List TrailItem). before ++ zs) same.0 ∙ sym g.appended, same.1)
