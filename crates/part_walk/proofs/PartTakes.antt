-- A partition's walk that takes what is kept, and goes on.
use Rattle.std.proofs.Common.{◌≡◌, ℕ, ◌<◌, ◌≤◌, ◌+◌, List, [], ◌∷◌, ◌++◌, map, length, Option, Some, None, take, arith, ap, sym, ◌∙◌, refl, subst, append_assoc, length-append}
use Rattle.std.proofs.lemmas.List.{length-map, append-nil}
use Rattle.journal_core.specs.declared.rows.ReadRow.{ReadRow}
use Rattle.journal_core.specs.declared.rows.KeyKind.{KeyKind}
use Rattle.journal_core.specs.declared.rows.KeyKind.TheVariants.{PartDir}
use Rattle.journal_core.specs.declared.rows.StopName.TheVariants.{NoStorage}
use Rattle.journal_core.specs.declared.walks.PartResult.{PartResult}
use Rattle.journal_core.specs.declared.walks.PartResult.TheVariants.{Stop}
use Rattle.journal_core.specs.declared.walks.PartStage.{PartStage}
use Rattle.journal_core.specs.declared.walks.PartStage.TheVariants.{Entry, Tree, Ended}
use Rattle.journal_core.specs.declared.walks.TrailItem.{TrailItem}
use Rattle.journal_core.specs.declared.walks.TrailItem.TheVariants.{Old, New}
use Rattle.journal_core.specs.Rows.{Rows}
use Rattle.journal_core.specs.PartitionWalk.{part_start, part_next, part_after, IsPartRead, PartFollows, PartEndsAt}
use Rattle.journal_core.specs.Following.{IsNew}
use Rattle.journal_core.specs.Standing.{AreRows, fill_reads}
use Rattle.journal_core.specs.Resumed.{KeptAnswers, kept_reads, numbers_of}
use Rattle.journal_core.specs.KeptAnswers.{known_of}
use Rattle.std.proofs.Math.Seq.{take-append_seam}
use Rattle.journal_core.specs.PartResumed.{kept_for, PartFreshFrom}
use Rattle.journal_core.specs.WalkLeft.{part_left}
use Rattle.walk_laws.specs.KeptBegins.{BeginsPart}
use Rattle.walk_laws.proofs.WalkBounds.{part-few, part_next-left, part_start-left}
use Rattle.walk_laws.proofs.LedFills.{rows_length}
use Rattle.walk_laws.proofs.PartResumedLemmas.{part_resumed_is_short}
use Rattle.part_walk.specs.Steps.{part_word, part_row, IsPartOpen}
use Rattle.part_walk.specs.Adds.{PartReplays, CanTake, TakesFill, PartBegins, AddsFresh, AddsPart}

some_injective : {A : Type 0} {x y : A} → Some x ≡ Some y → x ≡ y
some_injective e = cc

none_is_some : {A : Type 0} {x : A} → None ≡ Some x → ⊥
none_is_some e = cc

follows_replays : (reads : List ReadRow) (lpid gra : ℕ) (s : PartStage) (is : List ℕ) (rs : List ReadRow) → AreRows reads is rs → PartFollows lpid gra s rs → PartReplays reads lpid gra s is (part_after lpid gra s rs)
follows_replays reads lpid gra s [] [] named h = refl
follows_replays reads lpid gra s [] (r ∷ rs) named h = absurd named
follows_replays reads lpid gra s (i ∷ is) [] named h = absurd named
follows_replays reads lpid gra s (i ∷ is) (r ∷ rs) named h = (r, named.0, h.0, follows_replays reads lpid gra (part_next lpid gra s r.value) is rs named.1 h.1)

-- what is known of kept readings lets a walk take them
pub can_take : (rows : Rows) (ptcr lpid gra i : ℕ) → BeginsPart rows ptcr lpid gra i → CanTake rows ptcr lpid gra i
can_take rows ptcr lpid gra i h = record {
  fill = h.fill;
  is = h.is;
  few = omega (arith, h.few);
  short = omega (arith, rows_length rows.reads (fill_reads h.fill) h.rs h.named, part-few ptcr lpid gra h.rs h.follows);
  replays = record { last = part_after lpid gra (part_start ptcr lpid) h.rs; replays = follows_replays rows.reads lpid gra (part_start ptcr lpid) (fill_reads h.fill) h.rs h.named h.follows };
}

record Replayed (reads : List ReadRow) (lpid gra : ℕ) (s : PartStage) (is : List ℕ) (last : PartStage) : Type 0 where
  rs : List ReadRow
  named : AreRows reads is rs
  follows : PartFollows lpid gra s rs
  leads : last ≡ part_after lpid gra s rs

replayed : (reads : List ReadRow) (lpid gra : ℕ) (s : PartStage) (is : List ℕ) (last : PartStage) → PartReplays reads lpid gra s is last → Replayed reads lpid gra s is last
replayed reads lpid gra s [] last h = record { rs = []; named = tt; follows = tt; leads = h }
replayed reads lpid gra s (i ∷ is) last h =
    let rest : Replayed reads lpid gra (part_next lpid gra s h.0.value) is last = replayed reads lpid gra (part_next lpid gra s h.0.value) is last h.3 in
    record { rs = h.0 ∷ rest.rs; named = (h.1, rest.named); follows = (h.2, rest.follows); leads = rest.leads }

takes : (a : KeptAnswers) (ptcr lpid gra : ℕ) (is : List ℕ) (last : PartStage) (before after : List TrailItem) → kept_for a lpid gra ≡ is → after ≡ before ++ map Old is → PartReplays a.reads lpid gra (part_start ptcr lpid) is last → PartBegins a ptcr lpid gra last before after
takes a ptcr lpid gra is last before after is_due appended h =
    let t : Replayed a.reads lpid gra (part_start ptcr lpid) is last = replayed a.reads lpid gra (part_start ptcr lpid) is last h in
    record {
      appended = appended ∙ ap (λ ns. before ++ map Old ns) (sym is_due);
      taken = t.rs;
      named = subst (λ ns. AreRows a.reads ns t.rs) (sym is_due) t.named;
      follows = t.follows;
      leads = t.leads;
    }

-- the guest page is taken
pub takes_page : (rows : Rows) (directory : KeyKind → ℕ → ℕ → ℕ → Option ℕ) (page : ℕ → ℕ → Option ℕ) (ptcr lpid gra i : ℕ) (last : PartStage) (before after : List TrailItem) → page lpid gra ≡ Some i → TakesFill rows ptcr lpid gra i last before after → PartBegins (known_of rows directory page) ptcr lpid gra last before after
takes_page rows directory page ptcr lpid gra i last before after is h =
    takes (known_of rows directory page) ptcr lpid gra (numbers_of rows.fills (Some i)) last before after (ap (λ o. kept_reads rows.fills o (directory PartDir lpid 0 gra)) is) h.appended h.replays

-- the directory is taken
pub takes_directory : (rows : Rows) (directory : KeyKind → ℕ → ℕ → ℕ → Option ℕ) (page : ℕ → ℕ → Option ℕ) (ptcr lpid gra i : ℕ) (last : PartStage) (before after : List TrailItem) → page lpid gra ≡ None → directory PartDir lpid 0 gra ≡ Some i → TakesFill rows ptcr lpid gra i last before after
    → PartBegins (known_of rows directory page) ptcr lpid gra last before after
takes_directory rows directory page ptcr lpid gra i last before after none is h =
    takes (known_of rows directory page) ptcr lpid gra (numbers_of rows.fills (Some i)) last before after (ap (λ o. kept_reads rows.fills o (directory PartDir lpid 0 gra)) none ∙ ap (λ o. kept_reads rows.fills None o) is) h.appended h.replays

-- nothing is taken
pub takes_nothing : (rows : Rows) (directory : KeyKind → ℕ → ℕ → ℕ → Option ℕ) (page : ℕ → ℕ → Option ℕ) (ptcr lpid gra : ℕ) (last : PartStage) (before : List TrailItem) → page lpid gra ≡ None → directory PartDir lpid 0 gra ≡ None → last ≡ part_start ptcr lpid → PartBegins (known_of rows directory page) ptcr lpid gra last before before
takes_nothing rows directory page ptcr lpid gra last before no_page none is =
    takes (known_of rows directory page) ptcr lpid gra [] last before before (ap (λ o. kept_reads rows.fills o (directory PartDir lpid 0 gra)) no_page ∙ ap (λ o. kept_reads rows.fills None o) none) (sym (append-nil before)) is

-- the reading that is made is one that may be made
row_reads : (lpid gra : ℕ) (s : PartStage) (moment v : ℕ) → IsPartOpen s → IsPartRead lpid gra s (part_row lpid gra s moment v)
row_reads lpid gra (Entry at) moment v h = record { same_role = refl; same_lpid = refl; same_pid = refl; same_sought = refl; same_level = refl; same_left = refl; same_at = refl }
row_reads lpid gra (Tree n) moment v h = record { same_role = refl; same_lpid = refl; same_pid = refl; same_sought = refl; same_level = refl; same_left = refl; same_at = refl }
row_reads lpid gra (Ended out) moment v h = absurd h

row_value : (lpid gra : ℕ) (s : PartStage) (moment v : ℕ) → (part_row lpid gra s moment v).value ≡ v
row_value lpid gra (Entry at) moment v = refl
row_value lpid gra (Tree n) moment v = refl
row_value lpid gra (Ended out) moment v = refl

row_new : (word : ℕ → Option ℕ) (lpid gra : ℕ) (s : PartStage) (at moment v : ℕ) → part_word gra s ≡ Some at → word at ≡ Some v → IsNew word moment gra (part_row lpid gra s moment v)
row_new word lpid gra (Entry x) at moment v there is = record { stands = rw (some_injective there) is; same_moment = refl; same_sought = refl }
row_new word lpid gra (Tree n) at moment v there is = record { stands = rw (some_injective there) is; same_moment = refl; same_sought = refl }
row_new word lpid gra (Ended out) at moment v there is = absurd (none_is_some there)

ends_gap : (word : ℕ → Option ℕ) (gra : ℕ) (s : PartStage) (at : ℕ) → part_word gra s ≡ Some at → word at ≡ None → PartEndsAt word gra s (Stop NoStorage at)
ends_gap word gra (Entry x) at there gap = rw (some_injective there) (gap, refl)
ends_gap word gra (Tree n) at there gap = rw (some_injective there) (gap, refl)
ends_gap word gra (Ended out) at there gap = absurd (none_is_some there)

-- a walk that reads a word is not over
pub has_word : (gra : ℕ) (s : PartStage) (at : ℕ) → part_word gra s ≡ Some at → IsPartOpen s
has_word gra (Entry x) at there = tt
has_word gra (Tree n) at there = tt
has_word gra (Ended out) at there = absurd (none_is_some there)

-- fewer readings are left after a value
pub step_fewer : (lpid gra : ℕ) (s : PartStage) (v : ℕ) → IsPartOpen s → part_left (part_next lpid gra s v) < part_left s
step_fewer lpid gra s v h = rw (row_value lpid gra s 0 v) at (part_next-left lpid gra s (part_row lpid gra s 0 v) (row_reads lpid gra s 0 v h))

pub adds_over : (word : ℕ → Option ℕ) (moment lpid gra : ℕ) (s : PartStage) (out : PartResult) (before : List TrailItem) → s ≡ Ended out → AddsFresh word moment lpid gra s before before out
adds_over word moment lpid gra s out before is = record { rs = []; appended = sym (append-nil before); fresh = record { follows = tt; new = tt; ends = subst (λ x. PartEndsAt word gra x out) (sym is) refl } }

pub adds_gap : (word : ℕ → Option ℕ) (moment lpid gra : ℕ) (s : PartStage) (at : ℕ) (before : List TrailItem) → part_word gra s ≡ Some at → word at ≡ None → AddsFresh word moment lpid gra s before before (Stop NoStorage at)
adds_gap word moment lpid gra s at before there gap = record { rs = []; appended = sym (append-nil before); fresh = record { follows = tt; new = tt; ends = ends_gap word gra s at there gap } }

pub adds_more : (word : ℕ → Option ℕ) (moment lpid gra : ℕ) (s next : PartStage) (v at : ℕ) (before mid after : List TrailItem) (out : PartResult) → part_word gra s ≡ Some at → word at ≡ Some v → next ≡ part_next lpid gra s v → mid ≡ before ++ New (part_row lpid gra s moment v) ∷ []
    → AddsFresh word moment lpid gra next mid after out → AddsFresh word moment lpid gra s before after out
adds_more word moment lpid gra s next v at before mid after out there stands goes pushed h =
    let q : ReadRow = part_row lpid gra s moment v in
    let onward : next ≡ part_next lpid gra s q.value = rw (row_value lpid gra s moment v) goes in
    let rest : PartFreshFrom word moment lpid gra (part_next lpid gra s q.value) h.rs out = rw onward at h.fresh in
    record {
      rs = q ∷ h.rs;
      appended = h.appended ∙ ap (λ (xs : List TrailItem). xs ++ map New h.rs) pushed ∙ append_assoc before (New q ∷ []) (map New h.rs);
      fresh = record { follows = (row_reads lpid gra s moment v (has_word gra s at there), rest.follows); new = (row_new word lpid gra s at moment v there stands, rest.new); ends = rest.ends };
    }

-- a walk that took what is kept, and then went on
pub adds_part : (word : ℕ → Option ℕ) (moment : ℕ) (a : KeptAnswers) (ptcr lpid gra : ℕ) (s : PartStage) (before mid after : List TrailItem) (out : PartResult) → PartBegins a ptcr lpid gra s before mid → AddsFresh word moment lpid gra s mid after out → AddsPart word moment a ptcr lpid gra before after out
adds_part word moment a ptcr lpid gra s before mid after out b h = record {
  items = map Old (kept_for a lpid gra) ++ map New h.rs;
  appended = h.appended ∙ ap (λ (xs : List TrailItem). xs ++ map New h.rs) b.appended ∙ append_assoc before (map Old (kept_for a lpid gra)) (map New h.rs);
  resumed = record {
    taken = b.taken;
    rs = h.rs;
    items_are = refl;
    named = b.named;
    follows = b.follows;
    rest = subst (λ x. PartFreshFrom word moment lpid gra x h.rs out) b.leads h.fresh;
  };
}

pub few_more : (word : ℕ → Option ℕ) (moment : ℕ) (a : KeptAnswers) (ptcr lpid gra : ℕ) (before after : List TrailItem) (out : PartResult) → AddsPart word moment a ptcr lpid gra before after out → length after ≤ length before + 5
few_more word moment a ptcr lpid gra before after out h = (let few : length h.items ≤ 5 = part_resumed_is_short word moment a ptcr lpid gra h.items out h.resumed in rw h.appended (rw length-append (omega (arith, few))))

pub keeps : (word : ℕ → Option ℕ) (moment : ℕ) (a : KeptAnswers) (ptcr lpid gra : ℕ) (before after : List TrailItem) (out : PartResult) → AddsPart word moment a ptcr lpid gra before after out → take (length before) after ≡ before
keeps word moment a ptcr lpid gra before after out h = rw h.appended (take-append_seam before h.items)

-- what was taken leaves so many readings
along_left : (lpid gra : ℕ) (s : PartStage) (rs : List ReadRow) → PartFollows lpid gra s rs → length rs + part_left (part_after lpid gra s rs) ≤ part_left s
along_left lpid gra s [] h = omega arith
along_left lpid gra s (r ∷ rs) h = omega (arith, along_left lpid gra (part_next lpid gra s r.value) rs h.1, part_next-left lpid gra s r h.0)

start_left : (ptcr lpid : ℕ) → part_left (part_start ptcr lpid) ≤ 5
start_left ptcr lpid = part_start-left ptcr lpid

pub begins_room : (a : KeptAnswers) (ptcr lpid gra : ℕ) (s : PartStage) (before after : List TrailItem) → PartBegins a ptcr lpid gra s before after → length after + part_left s ≤ length before + 5
begins_room a ptcr lpid gra s before after b =
    let along : length b.taken + part_left (part_after lpid gra (part_start ptcr lpid) b.taken) ≤ part_left (part_start ptcr lpid) = along_left lpid gra (part_start ptcr lpid) b.taken b.follows in
    let first : part_left (part_start ptcr lpid) ≤ 5 = start_left ptcr lpid in
    let count : length (kept_for a lpid gra) ≡ length b.taken = rows_length a.reads (kept_for a lpid gra) b.taken b.named in
    rw b.appended (rw length-append (rw length-map (rw b.leads (omega (arith, along, first, count)))))
