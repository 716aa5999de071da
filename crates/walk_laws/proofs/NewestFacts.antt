-- What the last four fills of a kind and set say of what stands, and what a new fill does to them.
use Rattle.std.proofs.Common.{◌≡◌, ℕ, suc, ◌+◌, ◌-◌, ◌<◌, ◌≤◌, List, [], ◌∷◌, ◌++◌, length, take, drop, Some, None, Bool, true, false, arith, ap, sym, ◌∙◌, refl, subst, inl, inr, ◌⊎◌, length-append, length-drop}
use Rattle.std.specs.Prelude.{filter}
use Rattle.std.specs.List.{AllByRecursion}
use Rattle.std.proofs.Math.Seq.{take-length}
use Rattle.std.proofs.lemmas.List.{drop-append-le, drop-drop, append-nil}
use Rattle.std.proofs.lemmas.List.Elements.{filter-append}
use Rattle.journal_core.specs.declared.rows.KeyKind.{KeyKind}
use Rattle.journal_core.specs.declared.rows.Key.{Key}
use Rattle.journal_core.specs.declared.rows.ReadRow.{ReadRow}
use Rattle.journal_core.specs.declared.rows.FillRow.{FillRow}
use Rattle.journal_core.specs.Rows.{Rows}
use Rattle.journal_core.specs.Turns.{Turn, turn_later}
use Rattle.journal_core.specs.Covers.{IsCurrent}
use Rattle.journal_core.specs.Standing.{AreRows, IsStanding, IsStandingKey, fill_reads}
use Rattle.journal_core.specs.LastFour.{FillAt, fill_at, fills_at, fills_before, is_in_set, last_four, last_fills, newest_of_key}
use Rattle.journal_core.proofs.StandingStays.{rows_unique}
use Rattle.walk_laws.proofs.LastFourLemmas.{standing_newest, newest_standing}

some_same : {X : Type 0} (x y : X) → Some x ≡ Some y → x ≡ y
some_same x y e = cc

-- where no fill of the key is among the last four, none stands
pub none_if_none : (v : Turn) (c : ℕ) (key : Key) → newest_of_key v c key ≡ None → IsStandingKey v c key None
none_if_none v c key e j g h own =
    let found : newest_of_key v c key ≡ Some (fill_at j g) = ap (newest_of_key v c) (sym own) ∙ standing_newest v c j g h in
    cc

-- where the newest is current, it stands
pub some_if_current : (v : Turn) (c : ℕ) (key : Key) (i : ℕ) (f : FillRow) (rs : List ReadRow) → newest_of_key v c key ≡ Some (fill_at i f) → AreRows v.rows.reads (fill_reads f) rs → AllByRecursion (IsCurrent v.rows.dones v.thread v.step) rs → IsStandingKey v c key (Some i)
some_if_current v c key i f rs e named current =
    let h : IsStanding v c i f × (f.key ≡ key) = newest_standing v c key i f rs e named current in
    record { fill = f; standing = h.0; of_key = h.1 }

-- where it is not, none stands
pub none_if_stale : (v : Turn) (c : ℕ) (key : Key) (i : ℕ) (f : FillRow) (rs : List ReadRow) → newest_of_key v c key ≡ Some (fill_at i f) → AreRows v.rows.reads (fill_reads f) rs → (AllByRecursion (IsCurrent v.rows.dones v.thread v.step) rs → ⊥) → IsStandingKey v c key None
none_if_stale v c key i f rs e named stale j g h own =
    let found : newest_of_key v c key ≡ Some (fill_at j g) = ap (newest_of_key v c) (sym own) ∙ standing_newest v c j g h in
    let same : g ≡ f = ap (λ (x : FillAt). x.fill) (some_same (fill_at j g) (fill_at i f) (sym found ∙ e)) in
    let rows : h.readings ≡ rs = rows_unique v.rows.reads (fill_reads f) h.readings rs (subst (λ x. AreRows v.rows.reads (fill_reads x) h.readings) same h.named) named in
    stale (subst (AllByRecursion (IsCurrent v.rows.dones v.thread v.step)) rows h.current)

-- one more element makes the last four the last four of those and it
few_or_more : (n : ℕ) → (n < 4) ⊎ (4 ≤ n)
few_or_more n = grind arith

pub last_four_push : {X : Type 0} (xs : List X) (x : X) → last_four (xs ++ x ∷ []) ≡ last_four (last_four xs ++ x ∷ [])
last_four_push xs x = elim (few_or_more (length xs)) [
  | inl few ↦ (
      let whole : last_four xs ≡ xs = ap (λ n. drop n xs) (let e : length xs - 4 ≡ 0 = omega (arith, few) in e) in
      ap (λ ys. last_four (ys ++ x ∷ [])) (sym whole))
  | inr many ↦ (
      let m : ℕ = length xs - 4 in
      let left : last_four (xs ++ x ∷ []) ≡ drop (m + 1) xs ++ x ∷ [] = ap (λ n. drop n (xs ++ x ∷ [])) (let e : length (xs ++ x ∷ []) - 4 ≡ m + 1 = omega (arith, many, length-append xs (x ∷ [])) in e) ∙ drop-append-le (m + 1) xs (x ∷ []) (omega (arith, many)) in
      let four : length (last_four xs) ≡ 4 = omega (arith, many, length-drop m xs) in
      let right : last_four (last_four xs ++ x ∷ []) ≡ drop 1 (last_four xs) ++ x ∷ [] = ap (λ n. drop n (last_four xs ++ x ∷ [])) (let e : length (last_four xs ++ x ∷ []) - 4 ≡ 1 = omega (arith, four, length-append (last_four xs) (x ∷ [])) in e) ∙ drop-append-le 1 (last_four xs) (x ∷ []) (omega (arith, four)) in
      left ∙ (ap (λ ys. ys ++ x ∷ []) (sym (drop-drop 1 m xs)) ∙ sym right))
]

at_end : (i : ℕ) (fs : List FillRow) (f : FillRow) → fills_at i (fs ++ f ∷ []) ≡ fills_at i fs ++ fill_at (i + length fs) f ∷ []
at_end i [] f = ap (λ n. fill_at n f ∷ []) (none_plus i)
  where
    none_plus : (i : ℕ) → i ≡ i + 0
    none_plus i = omega arith
at_end i (g ∷ fs) f = ap (λ xs. fill_at i g ∷ xs) (at_end (i + 1) fs f ∙ ap (λ n. fills_at (i + 1) fs ++ fill_at n f ∷ []) (one_more i (length fs)))
  where
    one_more : (i n : ℕ) → i + 1 + n ≡ i + suc n
    one_more i n = omega arith

-- a new fill comes after those before it
pub before_push : (v : Turn) (new : Rows) (f : FillRow) → v.floor ≤ length v.rows.fills → new.fills ≡ v.rows.fills ++ f ∷ [] → fills_before (turn_later v new) (length new.fills) ≡ fills_before v (length v.rows.fills) ++ fill_at (length v.rows.fills) f ∷ []
before_push v new f within e =
    let old : List FillRow = v.rows.fills in
    let all : drop v.floor (take (length new.fills) new.fills) ≡ drop v.floor old ++ f ∷ [] = ap (drop v.floor) (take-length new.fills ∙ e) ∙ drop-append-le v.floor old (f ∷ []) within in
    let place : v.floor + length (drop v.floor old) ≡ length old = omega (arith, within, length-drop v.floor old) in
    ap (fills_at v.floor) all
    ∙ (at_end v.floor (drop v.floor old) f
    ∙ (ap (λ n. fills_at v.floor (drop v.floor old) ++ fill_at n f ∷ []) place
    ∙ ap (λ fs. fills_at v.floor (drop v.floor fs) ++ fill_at (length old) f ∷ []) (sym (take-length old))))

-- in its own set it makes the last four those of the four and it
pub own_set_push : (v : Turn) (new : Rows) (f : FillRow) (kind : KeyKind) (set : ℕ) → v.floor ≤ length v.rows.fills → new.fills ≡ v.rows.fills ++ f ∷ [] → is_in_set v.thread kind set (fill_at (length v.rows.fills) f) ≡ true →
    last_fills (turn_later v new) (length new.fills) kind set ≡ last_four (last_fills v (length v.rows.fills) kind set ++ fill_at (length v.rows.fills) f ∷ [])
own_set_push v new f kind set within e on =
    let p : FillAt → Bool = is_in_set v.thread kind set in
    let x : FillAt = fill_at (length v.rows.fills) f in
    let xs : List FillAt = fills_before v (length v.rows.fills) in
    ap (λ ys. last_four (filter p ys)) (before_push v new f within e)
    ∙ (ap last_four (filter-append p xs (x ∷ []) ∙ ap (λ ys. filter p xs ++ ys) (rw on refl)) ∙ last_four_push (filter p xs) x)

-- each other set it leaves
pub other_set_push : (v : Turn) (new : Rows) (f : FillRow) (kind : KeyKind) (set : ℕ) → v.floor ≤ length v.rows.fills → new.fills ≡ v.rows.fills ++ f ∷ [] → is_in_set v.thread kind set (fill_at (length v.rows.fills) f) ≡ false →
    last_fills (turn_later v new) (length new.fills) kind set ≡ last_fills v (length v.rows.fills) kind set
other_set_push v new f kind set within e off =
    let p : FillAt → Bool = is_in_set v.thread kind set in
    let x : FillAt = fill_at (length v.rows.fills) f in
    let xs : List FillAt = fills_before v (length v.rows.fills) in
    ap (λ ys. last_four (filter p ys)) (before_push v new f within e)
    ∙ ap last_four (filter-append p xs (x ∷ []) ∙ (ap (λ ys. filter p xs ++ ys) (rw off refl) ∙ append-nil (filter p xs)))
