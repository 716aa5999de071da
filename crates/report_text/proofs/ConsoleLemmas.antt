-- What a slot shows, row by row.
use Rattle.std.proofs.Common.{◌≡◌, ℕ, zero, suc, ◌+◌, ◌<◌, ◌≤◌, List, [], ◌∷◌, ◌++◌, length, take, drop, Option, Some, None, Bool, true, false, cond, map, lit≤, Err, subst, refl, ap, sym, ◌∙◌, arith, length-append, take-append-drop}
use Rattle.std.specs.Prelude.{slice_get, filter, flat_map, ◌==◌}
use Rattle.std.specs.List.{range_with_len}
use Rattle.std.proofs.lemmas.List.FromFn.{length-map-range_with_len}
use Rattle.outer_io.specs.declared.sink.SinkFault.{SinkFault}
use Rattle.outer_io.specs.Outside.{CountRose, added, AddsFront}
use Rattle.outer_io.proofs.Printing.{puts_then, puts_stop}
use Rattle.line_text.specs.Text.{text_of}
use Rattle.journal_core.specs.declared.rows.Signal.{Signal}
use Rattle.journal_core.specs.declared.rows.Signal.TheVariants.{Quiet, Byte, Stop, Eject}
use Rattle.std.proofs.lemmas.Grind.{flat_map-append}
use Rattle.std.proofs.lemmas.List.Elements.{filter-append}
use Rattle.journal_core.specs.declared.rows.DeviceRow.{DeviceRow}
use Rattle.report_text.specs.ConsoleText.{signal_bytes, console_bytes, escape, escaped, console_parts, console_line, console_lines}

pub console_bytes-append : (slot : ℕ) (front back : List DeviceRow) → console_bytes slot (front ++ back) ≡ console_bytes slot front ++ console_bytes slot back
console_bytes-append slot front back =
    ap (flat_map (λ (row : DeviceRow). signal_bytes row.signal)) (filter-append (λ (row : DeviceRow). row.slot == slot) front back)
    ∙ flat_map-append (λ (row : DeviceRow). signal_bytes row.signal) (filter (λ (row : DeviceRow). row.slot == slot) front) (filter (λ (row : DeviceRow). row.slot == slot) back)

pub escaped_append : (slot : ℕ) (front back : List DeviceRow) → escaped (console_bytes slot (front ++ back)) ≡ escaped (console_bytes slot front) ++ escaped (console_bytes slot back)
escaped_append slot front back = ap escaped (console_bytes-append slot front back) ∙ flat_map-append escape (console_bytes slot front) (console_bytes slot back)

take_next : (rows : List DeviceRow) (k : ℕ) (row : DeviceRow) → slice_get rows k ≡ Some row → take (suc k) rows ≡ take k rows ++ row ∷ []
take_next [] k row e = absurd cc
take_next (first ∷ rows) zero row e = let same : first ≡ row = cc in ap (λ (r : DeviceRow). r ∷ []) same
take_next (first ∷ rows) (suc k) row e = ap (λ (rs : List DeviceRow). first ∷ rs) (take_next rows k row e)

-- one row more
pub console_bytes_next : (slot : ℕ) (rows : List DeviceRow) (k : ℕ) (row : DeviceRow) → slice_get rows k ≡ Some row → console_bytes slot (take (k + 1) rows) ≡ console_bytes slot (take k rows) ++ console_bytes slot (row ∷ [])
console_bytes_next slot rows k row is =
    let n : k + 1 ≡ suc k = omega arith in
    rw (n, take_next rows k row is) (console_bytes-append slot (take k rows) (row ∷ []))

pub escaped_next : (slot : ℕ) (rows : List DeviceRow) (k : ℕ) (row : DeviceRow) → slice_get rows k ≡ Some row → escaped (console_bytes slot (take (k + 1) rows)) ≡ escaped (console_bytes slot (take k rows)) ++ escaped (console_bytes slot (row ∷ []))
escaped_next slot rows k row is =
    let n : k + 1 ≡ suc k = omega arith in
    rw (n, take_next rows k row is) (escaped_append slot (take k rows) (row ∷ []))

-- there is a row at each place below the length
pub row_there : (rows : List DeviceRow) (k : ℕ) → k < length rows → slice_get rows k ≡ None → ⊥
row_there [] k lt e = absurd (omega arith)
row_there (first ∷ rows) zero lt e = absurd cc
row_there (first ∷ rows) (suc k) lt e = row_there rows k (omega arith) e

-- what is shown so far, and what comes
pub escaped_parts : (slot : ℕ) (rows : List DeviceRow) (k : ℕ) → escaped (console_bytes slot rows) ≡ escaped (console_bytes slot (take k rows)) ++ escaped (console_bytes slot (drop k rows))
escaped_parts slot rows k = ap (λ (rs : List DeviceRow). escaped (console_bytes slot rs)) (sym (take-append-drop k rows)) ∙ escaped_append slot (take k rows) (drop k rows)

length-signal_bytes : (signal : Signal) → length (signal_bytes signal) ≤ 1
length-signal_bytes (Byte byte) = lit≤ tt
length-signal_bytes Quiet = lit≤ tt
length-signal_bytes Stop = lit≤ tt
length-signal_bytes (Eject slot) = lit≤ tt

-- a row shows at most one byte
length-shown : (rows : List DeviceRow) → length (flat_map (λ (row : DeviceRow). signal_bytes row.signal) rows) ≤ length rows
length-shown [] = lit≤ tt
length-shown (row ∷ rows) =
    omega (arith, length-append (signal_bytes row.signal) (flat_map (λ (r : DeviceRow). signal_bytes r.signal) rows), length-signal_bytes row.signal, length-shown rows)

length-filter : (test : DeviceRow → Bool) (rows : List DeviceRow) → length (filter test rows) ≤ length rows
length-filter test [] = lit≤ tt
length-filter test (row ∷ rows) = by (test row) (length-filter test rows)
  where
    by : (b : Bool) → length (filter test rows) ≤ length rows → length (cond b (row ∷ filter test rows) (filter test rows)) ≤ suc (length rows)
    by true le = omega (arith, le)
    by false le = omega (arith, le)

pub length-console_bytes : (slot : ℕ) (rows : List DeviceRow) → length (console_bytes slot rows) ≤ length rows
length-console_bytes slot rows = omega (arith, length-shown (filter (λ (row : DeviceRow). row.slot == slot) rows), length-filter (λ (row : DeviceRow). row.slot == slot) rows)

-- there is no line where no byte is shown, and else it has its parts
pub console_line_none : (slot : ℕ) (bytes : List ℕ) → length bytes ≡ 0 → console_line slot bytes ≡ []
console_line_none slot [] e = refl
console_line_none slot (byte ∷ bytes) e = absurd (omega arith)

pub console_line_some : (slot : ℕ) (bytes : List ℕ) → 0 < length bytes → console_line slot bytes ≡ text_of (console_parts slot bytes)
console_line_some slot [] lt = absurd (omega arith)
console_line_some slot (byte ∷ bytes) lt = refl

-- the line of each slot
get-map_range : (f : ℕ → List ℕ) (from n k : ℕ) → k < n → slice_get (map f (range_with_len from n)) k ≡ Some (f (from + k))
get-map_range f from zero k lt = absurd (omega arith)
get-map_range f from (suc n) zero lt = let e : from + 0 ≡ from = omega arith in rw e refl
get-map_range f from (suc n) (suc k) lt = let e : from + suc k ≡ from + 1 + k = omega arith in rw e (get-map_range f (from + 1) n k (omega arith))

pub get-console_lines : (devices : List DeviceRow) (slot : ℕ) → slot < 256 → slice_get (console_lines devices) slot ≡ Some (console_line slot (console_bytes slot devices))
unfolding console_lines
get-console_lines devices slot lt =
    let e : 0 + slot ≡ slot = omega arith in
    get-map_range (λ (s : ℕ). console_line s (console_bytes s devices)) 0 256 slot lt ∙ rw e refl

pub length-console_lines : (devices : List DeviceRow) → length (console_lines devices) ≡ 256
unfolding console_lines
length-console_lines devices = length-map-range_with_len (λ (s : ℕ). console_line s (console_bytes s devices)) 0 256

-- a piece of what a slot shows was cut short where what comes before it was put
pub shown_cut : (slot : ℕ) (rows : List DeviceRow) (from end : ℕ) (piece : List ℕ) (old mid new : Option (List ℕ)) (f g h : ℕ)
    → escaped (console_bytes slot (take from rows)) ++ piece ≡ escaped (console_bytes slot (take end rows))
    → (mid ≡ added old (escaped (console_bytes slot (take from rows)))) × (f ≤ g) → AddsFront mid new piece × CountRose g h × (g ≤ h)
    → AddsFront old new (escaped (console_bytes slot rows)) × CountRose f h × (f ≤ h)
shown_cut slot rows from end piece old mid new f g h is before now =
    let fault : SinkFault = record {} in
    let so_far = puts_then {X = Unit {0}} old mid new f g h (Err fault) (escaped (console_bytes slot (take from rows))) piece before now in
    let front = puts_stop old new (escaped (console_bytes slot (take end rows))) (escaped (console_bytes slot (drop end rows))) (subst (AddsFront old new) is so_far.0) in
    (subst (AddsFront old new) (sym (escaped_parts slot rows end)) front, so_far.1, so_far.2)
