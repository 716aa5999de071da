-- A kept guest page, and fills of a walk; each line says which definitions it exercises.
use Rattle.std.proofs.Common.{◌≡◌, [], ◌∷◌, map, replicate, get_or, ap, refl, Some, arith}
use Rattle.std.specs.Prelude.{Contains}
use Rattle.walk_laws.proofs.ExamplesChoice.{fetch, reads, rows, own_fill}
use Rattle.walk_laws.proofs.ExamplesAnswers.{fetch_right, fetch_walks}
use Rattle.walk_laws.proofs.ExamplesStanding.{IsOther, later_at}
use Rattle.journal_core.specs.PartitionWalk.{part_start, after_entry, after_tree, at_node}
use Rattle.journal_core.specs.Rights.{first_denial}
use Rattle.journal_core.specs.Places.{place_of}
use Rattle.journal_core.specs.Walk.{inside, in_process, after_second, after_process_entry, process_start}
use Rattle.journal_core.specs.Rows.{JournalView}
use Rattle.journal_core.specs.Turns.{turn_of}
use Rattle.journal_core.specs.Standing.{IsStanding, key_of}
use Rattle.journal_core.specs.Fills.{fills_of, fill_of}
use Rattle.journal_core.specs.Translating.{IsFillOfWalk, IsKeptPage}
use Rattle.journal_core.specs.declared.rows.StepEnd.TheVariants.{Ran}
use Rattle.journal_core.specs.declared.rows.StepRow.{StepRow}
use Rattle.journal_core.specs.declared.rows.FillRow.{FillRow}
use Rattle.journal_core.specs.declared.rows.ReadRow.{ReadRow}
use Rattle.journal_core.specs.declared.rows.Role.TheVariants.{Pate}
use Rattle.journal_core.specs.declared.rows.Key.{Key}
use Rattle.journal_core.specs.declared.rows.KeyKind.TheVariants.{Translation, GuestPage}
use Rattle.journal_core.specs.declared.rows.Use.TheVariants.{Unused}
use Rattle.journal_core.specs.declared.walks.TrailItem.TheVariants.{New}

-- the journal of the first fetch, when eight steps were made
abbrev step_row : StepRow
step_row = record { thread = 0; cia = 0x5000; word = Some 0x6000_0000; end = Ran; uses = Unused ∷ Unused ∷ Unused ∷ [] }

abbrev shown : JournalView
shown = record { reserved = 100; floor = 0; rows = record rows { steps = replicate 8 step_row } }

-- fill 6, the guest page of the process's second table
abbrev page_fill : FillRow
page_fill = fill_of 0 7 (key_of GuestPage 1 0 12 0x4000) 2 (9 ∷ 10 ∷ 11 ∷ [])

abbrev blank : ReadRow
blank = record { role = Pate; lpid = 0; pid = 0; sought = 0; level = 0; left = 0; at = 0; value = 0; moment = 0 }

other_page : IsOther 0 (key_of GuestPage 1 0 12 0x4000) (fill_of 0 7 (key_of GuestPage 1 0 12 0x5000) 2 (13 ∷ 14 ∷ 15 ∷ []))
other_page thread same = (let e : 5 ≡ 4 = ap (λ (k : Key). k.page) same in omega (arith, e))

other_kind : IsOther 0 (key_of GuestPage 1 0 12 0x4000) own_fill
other_kind thread same = (let e : Translation ≡ GuestPage = ap (λ (k : Key). k.kind) same in different e)
  where
    different : Translation ≡ GuestPage → ⊥
    different e = cc

page_stands : IsStanding (turn_of shown.rows 0 0 8) 9 6 page_fill
unfolding place_of part_start process_start after_second after_process_entry inside in_process after_entry after_tree at_node first_denial
page_stands = record {
  is = refl;
  of_thread = refl;
  from_floor = omega arith;
  below = omega arith;
  last = λ j later below g at thread same. later_at (IsOther 0 (key_of GuestPage 1 0 12 0x4000)) rows.fills 9 6 j g (other_page, (other_kind, tt)) later below at thread same;
  few = omega arith;
  readings = get_or reads 9 blank ∷ get_or reads 10 blank ∷ get_or reads 11 blank ∷ [];
  named = (refl, (refl, (refl, tt)));
  current = (record { made = omega arith; kept = tt }, (record { made = omega arith; kept = tt }, (record { made = omega arith; kept = tt }, tt)));
}

-- the walk of the fetch added it, and so did it the fetch's own fill (IsFillOfWalk)
of_walk : (f : FillRow) → Contains (fills_of f.thread f.moment fetch reads 0 (map New reads)) f → IsFillOfWalk shown.rows 0x2_0000 f
unfolding place_of part_start process_start after_second after_process_entry inside in_process after_entry after_tree at_node first_denial
of_walk f is_one = record { ask = fetch; same_ptcr = refl; items = map New reads; from = 0; real = 0x11_5000; old_are = tt; new_stand = refl; walk = fetch_walks; right = fetch_right; is_one = is_one }

page_of_walk : IsFillOfWalk shown.rows 0x2_0000 page_fill
unfolding place_of part_start process_start after_second after_process_entry inside in_process after_entry after_tree at_node first_denial
page_of_walk = of_walk page_fill (6, omega arith, refl)

own_of_walk : IsFillOfWalk shown.rows 0x2_0000 own_fill
unfolding place_of part_start process_start after_second after_process_entry inside in_process after_entry after_tree at_node first_denial
own_of_walk = of_walk own_fill (8, omega arith, refl)

-- so it is a kept page for the guest real addresses of that table (IsKeptPage)
page_is_kept : IsKeptPage shown 0 0x2_0000 1 0x4014 6
unfolding place_of part_start process_start after_second after_process_entry inside in_process after_entry after_tree at_node first_denial
page_is_kept = record { fill = page_fill; standing = page_stands; of_key = refl; of_walk = page_of_walk }
