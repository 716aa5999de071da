-- Each fill of a finished walk is led by its readings.
use Rattle.std.proofs.Common.{◌≡◌, ℕ, ◌+◌, ◌-◌, ◌/◌, ◌^◌, ◌≤◌, List, [], ◌∷◌, ◌++◌, length, Bool, true, false, Option, Some, None, arith, ap, sym, ◌∙◌, refl, subst, length-append}
use Rattle.std.specs.Prelude.{slice_get, nat_lt, nat_le, ◌==◌, ◌&&◌, ◌||◌, if◌then◌else◌}
use Rattle.std.specs.List.{AllByRecursion}
use Rattle.journal_core.specs.declared.rows.KeyKind.TheVariants.{GuestPage, ProcessDir, PartDir}
use Rattle.journal_core.specs.declared.rows.Key.{Key}
use Rattle.journal_core.specs.declared.rows.ReadRow.{ReadRow}
use Rattle.journal_core.specs.declared.rows.FillRow.{FillRow}
use Rattle.journal_core.specs.declared.walks.PartResult.TheVariants.{Leaf, Fault as PartFault, Stop as PartStop}
use Rattle.journal_core.specs.declared.walks.Node.{Node}
use Rattle.journal_core.specs.declared.walks.Goal.{Goal}
use Rattle.journal_core.specs.declared.walks.NestResult.TheVariants.{Page}
use Rattle.journal_core.specs.declared.walks.PartStage.{PartStage}
use Rattle.journal_core.specs.declared.walks.PartStage.TheVariants.{Entry, Tree, Ended}
use Rattle.journal_core.specs.declared.walks.Stage.{Stage}
use Rattle.journal_core.specs.declared.walks.Stage.TheVariants.{SecondWord, PartEntry, PartTable, ProcessEntry, ProcessTable, Over}
use Rattle.journal_core.specs.Asks.{bits}
use Rattle.journal_core.specs.PartitionWalk.{root_bits, node_of, at_node, part_start, after_entry, after_tree, is_leaf, SameOver}
use Rattle.journal_core.specs.Walk.{Task, next, in_process, after_process_entry, stage_after}
use Rattle.journal_core.specs.Following.{IsRead, Follows}
use Rattle.journal_core.specs.Standing.{AreRows, key_of}
use Rattle.journal_core.specs.Fills.{found_at, has_key, NumberedItem, fill_of, SoFar, numbers_for, begins_part, taking, is_own, first_found, fills_for, own_fill, fills_from}
use Rattle.walk_laws.specs.KeptBegins.{IsInTree}
use Rattle.walk_laws.proofs.WalkBounds.{cond_case}
use Rattle.walk_laws.proofs.AlikeWalks.{no_way}
use Rattle.walk_laws.proofs.SamePage.{same_more, IsLarge, large_start}
use Rattle.walk_laws.proofs.PartSoFar.{HasPart, PartSoFar, part_with, next_so_far, named_append, entry_part, tree_part, entry_no_entry, tree_no_entry}
use Rattle.walk_laws.proofs.PartServes.{after_large}
use Rattle.walk_laws.proofs.LedFills.{LeadsToTable, LedProcess, IsLed, reads_of_fill, rows_length, live, entry_leaves, tree_leaves, make_part}

-- no leaf
abbrev NoLeaf : PartStage → Type 0
NoLeaf (Entry at) = Unit {0}
NoLeaf (Tree n) = Unit {0}
NoLeaf (Ended (Leaf page low att eaa r c)) = ⊥
NoLeaf (Ended (PartFault kind)) = Unit {0}
NoLeaf (Ended (PartStop name value)) = Unit {0}

node_no_leaf : (n : Node) → NoLeaf (at_node n)
unfolding at_node
node_no_leaf n = cond_case NoLeaf (nat_le 5 n.size && (nat_le n.size 16 && nat_le (n.size + 12) n.left)) _ _ (λ is. tt) (λ isnt. tt)

apart : true ≡ false → ⊥
apart e = cc

tree_no_leaf : (rest level v : ℕ) → is_leaf v ≡ false → NoLeaf (after_tree rest level v)
unfolding after_tree
tree_no_leaf rest level v dir =
    cond_case NoLeaf (bits v 0 0 == 0) _ _ (λ is. tt)
    (λ o. cond_case NoLeaf (is_leaf v) _ _ (λ is. absurd (apart (sym is ∙ dir)))
    (λ o. cond_case NoLeaf (nat_le 4 level) _ _ (λ is. tt)
    (λ o. node_no_leaf (node_of v rest (level + 1)))))

record IsTableOf (p : PartStage) : Type 0 where
  table : Node
  is : p ≡ Tree table

-- on its way to a page, and at no leaf, the walk of a process's tree reads a table next
to_table : (k : Task) (p : PartStage) (rest : List ReadRow) (real : ℕ) → NoLeaf p → stage_after k (in_process k p) rest ≡ Over (Page real) → IsTableOf p
unfolding in_process
to_table k (Entry at) rest real leafless leads = absurd (no_way k _ rest real tt leads)
to_table k (Tree n) rest real leafless leads = record { table = n; is = refl }
to_table k (Ended (Leaf page low att eaa r c)) rest real leafless leads = absurd leafless
to_table k (Ended (PartFault kind)) rest real leafless leads = absurd (no_way k _ rest real tt leads)
to_table k (Ended (PartStop name value)) rest real leafless leads = absurd (no_way k _ rest real tt leads)

record HasTable (k : Task) (s : Stage) (v : ℕ) : Type 0 where
  table : Node
  leads : LeadsToTable k s v table

entry_table : (k : Task) (at v : ℕ) (rest : List ReadRow) (real : ℕ) (b c : Bool) → nat_lt 52 (root_bits v) ≡ b → nat_le (2 ^ root_bits v) k.address ≡ c → stage_after k (after_process_entry k v) rest ≡ Over (Page real) → HasTable k (ProcessEntry at) v
unfolding after_process_entry
entry_table k at v rest real true c e f leads = absurd (no_way k _ rest real tt (rw e at leads))
entry_table k at v rest real false true e f leads = absurd (no_way k _ rest real tt (rw (e, f) at leads))
entry_table k at v rest real false false e f leads =
    let t : IsTableOf (at_node (node_of v (root_bits v) 1)) = to_table k (at_node (node_of v (root_bits v) 1)) rest real (node_no_leaf (node_of v (root_bits v) 1)) (rw (e, f) at leads) in
    record { table = t.table; leads = (e, f, t.is) }

-- what is known of all numbers so far
pub record HasWhole (k : Task) (start : Stage) (reads : List ReadRow) (is : List ℕ) (s : Stage) : Type 0 where
  pub ps : List ReadRow
  pub named : AreRows reads is ps
  pub follows : Follows k start ps
  pub leads : stage_after k start ps ≡ s

whole_append : (k : Task) (s : Stage) (ps : List ReadRow) (r : ReadRow) → Follows k s ps → IsRead k (stage_after k s ps) r → Follows k s (ps ++ r ∷ [])
whole_append k s [] r h one = (one, tt)
whole_append k s (p ∷ ps) r h one = (h.0, whole_append k (next k s p.value) ps r h.1 one)

after_append : (k : Task) (s : Stage) (ps : List ReadRow) (r : ReadRow) → stage_after k s (ps ++ r ∷ []) ≡ next k (stage_after k s ps) r.value
after_append k s [] r = refl
after_append k s (p ∷ ps) r = after_append k (next k s p.value) ps r

whole_more : (k : Task) (start : Stage) (reads : List ReadRow) (is : List ℕ) (s : Stage) (i : ℕ) (r : ReadRow) → HasWhole k start reads is s → IsRead k s r → slice_get reads i ≡ Some r → HasWhole k start reads (is ++ i ∷ []) (next k s r.value)
whole_more k start reads is s i r h a there = record {
  ps = h.ps ++ r ∷ [];
  named = named_append reads is h.ps i r h.named there;
  follows = whole_append k start h.ps r h.follows (subst (λ x. IsRead k x r) (sym h.leads) a);
  leads = after_append k start h.ps r ∙ ap (λ x. next k x r.value) h.leads;
}

make_process : (k : Task) (start : Stage) (reads : List ReadRow) (t n level : ℕ) (key : Key) (numbers : List ℕ) (i : ℕ) (r : ReadRow) (s : Stage) → length (numbers ++ i ∷ []) ≤ 36 → key.lpid ≡ k.lpid → key.pid ≡ k.pid → key.left ≡ r.left → key.page ≡ k.address / 2 ^ r.left
    → HasWhole k start reads numbers s → IsRead k s r → slice_get reads i ≡ Some r → HasTable k s r.value → LedProcess k start reads (fill_of t n key level (numbers ++ i ∷ []))
make_process k start reads t n level key numbers i r s few lpid pid left page h a there table = record {
  lpid = lpid;
  pid = pid;
  qs = h.ps;
  last = r;
  named = subst (λ is. AreRows reads is (h.ps ++ r ∷ [])) (sym (reads_of_fill t n key level (numbers ++ i ∷ []) few)) (named_append reads numbers h.ps i r h.named there);
  count = length-append numbers (i ∷ []) ∙ ap (λ x. x + 1) (rows_length reads numbers h.ps h.named);
  follows = h.follows;
  read = subst (λ x. IsRead k x r) (sym h.leads) a;
  table = table.table;
  leads = subst (λ x. LeadsToTable k x r.value table.table) (sym h.leads) table.leads;
  left = left;
  page = page;
}

no_key : {X : Type 0} (key : Key) → None ≡ Some key → X
no_key key e = cc

one_key : (a b : Key) → Some a ≡ Some b → a ≡ b
one_key a b e = cc

-- a fill of a key that this reading found
abbrev FoundBy : Task → Stage → Option Key → List ReadRow → ℕ → ℕ → ℕ → SoFar → Key → Type 0
FoundBy k start own reads t n level x key = IsLed k start own reads (fill_of t n key level (numbers_for key.kind x)) key.kind

as_found : (k : Task) (start : Stage) (own : Option Key) (reads : List ReadRow) (t n level : ℕ) (x : SoFar) (a key : Key) → Some a ≡ Some key → FoundBy k start own reads t n level x a → FoundBy k start own reads t n level x key
as_found k start own reads t n level x a key e h = subst (FoundBy k start own reads t n level x) (one_key a key e) h

found_leaf : (b : Bool) (x y : Key) → b ≡ true → Some (if b then x else y) ≡ Some x
found_leaf b x y e = rw e refl

found_table : (b : Bool) (x y : Key) → b ≡ false → Some (if b then x else y) ≡ Some y
found_table b x y e = rw e refl

part_found : (k : Task) (start : Stage) (own : Option Key) (reads : List ReadRow) (t n level : ℕ) (x : SoFar) (part : List ℕ) (goal : Goal) (gra : ℕ) (m : Node) (i : ℕ) (r : ReadRow) (key : Key) (rest : List ReadRow) (real : ℕ) (b : Bool) → is_leaf r.value ≡ b
    → x.part ≡ part_with part i false → length x.part ≤ 36 → PartSoFar k reads part (PartTable goal gra m) → IsRead k (PartTable goal gra m) r → slice_get reads i ≡ Some r → stage_after k (next k (PartTable goal gra m) r.value) rest ≡ Over (Page real)
    → found_at k (PartTable goal gra m) r ≡ Some key → FoundBy k start own reads t n level x key
part_found k start own reads t n level x part goal gra m i r key rest real true b same few h a there leads e =
    let p : PartStage = after_tree (m.left - m.size) m.level r.value in
    let in_tree : IsInTree p = live k goal gra p rest real (λ z q. tree_no_entry (m.left - m.size) m.level r.value z q) leads in
    let large : 12 ≤ m.left - m.size = subst IsLarge h.leads (after_large k.lpid gra (part_start k.ask.ptcr k.lpid) h.ps (large_start k.ask.ptcr k.lpid) h.follows) in
    as_found k start own reads t n level x (key_of GuestPage k.lpid 0 12 gra) key (sym (found_leaf (is_leaf r.value) (key_of GuestPage k.lpid 0 12 gra) (key_of PartDir k.lpid 0 r.left gra) b) ∙ e)
    (make_part k reads t n level (key_of GuestPage k.lpid 0 12 gra) x.part gra (m.left - m.size) p few refl (subst (λ is. HasPart k gra reads is p) (sym same) (tree_part k reads part goal gra m i r h a there)) in_tree (tree_leaves (m.left - m.size) m.level r.value in_tree)
    (λ other page. same_more 12 (m.left - m.size) gra other large page))
part_found k start own reads t n level x part goal gra m i r key rest real false b same few h a there leads e =
    let p : PartStage = after_tree (m.left - m.size) m.level r.value in
    let in_tree : IsInTree p = live k goal gra p rest real (λ z q. tree_no_entry (m.left - m.size) m.level r.value z q) leads in
    as_found k start own reads t n level x (key_of PartDir k.lpid 0 r.left gra) key (sym (found_table (is_leaf r.value) (key_of GuestPage k.lpid 0 12 gra) (key_of PartDir k.lpid 0 r.left gra) b) ∙ e)
    (make_part k reads t n level (key_of PartDir k.lpid 0 r.left gra) x.part gra (m.left - m.size) p few refl (subst (λ is. HasPart k gra reads is p) (sym same) (tree_part k reads part goal gra m i r h a there)) in_tree (tree_leaves (m.left - m.size) m.level r.value in_tree)
    (λ other page. subst (λ l. SameOver l gra other) a.same_left page))

no_leaf_key : {X : Type 0} (b : Bool) (x key : Key) → b ≡ true → (if b then None else Some x) ≡ Some key → X
no_leaf_key true x key e h = no_key key h
no_leaf_key false x key e h = absurd (apart (sym e))

table_key : (b : Bool) (x : Key) → b ≡ false → (if b then None else Some x) ≡ Some x
table_key b x e = rw e refl

process_found : (k : Task) (start : Stage) (own : Option Key) (reads : List ReadRow) (t n level : ℕ) (x : SoFar) (numbers : List ℕ) (m : Node) (at i : ℕ) (r : ReadRow) (key : Key) (rest : List ReadRow) (real : ℕ) (b : Bool) → is_leaf r.value ≡ b
    → x.numbers ≡ numbers ++ i ∷ [] → length x.numbers ≤ 36 → HasWhole k start reads numbers (ProcessTable m at) → IsRead k (ProcessTable m at) r → slice_get reads i ≡ Some r → stage_after k (next k (ProcessTable m at) r.value) rest ≡ Over (Page real)
    → found_at k (ProcessTable m at) r ≡ Some key → FoundBy k start own reads t n level x key
process_found k start own reads t n level x numbers m at i r key rest real true b same few h a there leads e = no_leaf_key (is_leaf r.value) (key_of ProcessDir k.lpid k.pid r.left k.address) key b e
process_found k start own reads t n level x numbers m at i r key rest real false b same few h a there leads e =
    let found : Key = key_of ProcessDir k.lpid k.pid r.left k.address in
    let table : IsTableOf (after_tree (m.left - m.size) m.level r.value) = to_table k (after_tree (m.left - m.size) m.level r.value) rest real (tree_no_leaf (m.left - m.size) m.level r.value b) leads in
    as_found k start own reads t n level x found key (sym (table_key (is_leaf r.value) found b) ∙ e)
    (subst (λ is. LedProcess k start reads (fill_of t n found level is)) (sym same)
    (make_process k start reads t n level found numbers i r (ProcessTable m at) (subst (λ is. length is ≤ 36) same few) refl refl refl refl h a there (record { table = table.table; leads = table.is })))

-- a reading on the way to a page leads each fill whose key it found
found_led : (k : Task) (start : Stage) (own : Option Key) (reads : List ReadRow) (t n level : ℕ) (x : SoFar) (numbers part : List ℕ) (s : Stage) (i : ℕ) (r : ReadRow) (key : Key) (rest : List ReadRow) (real : ℕ)
    → x.numbers ≡ numbers ++ i ∷ [] → x.part ≡ part_with part i (begins_part s) → length x.numbers ≤ 36 → length x.part ≤ 36 → PartSoFar k reads part s → HasWhole k start reads numbers s → IsRead k s r → slice_get reads i ≡ Some r
    → stage_after k (next k s r.value) rest ≡ Over (Page real) → found_at k s r ≡ Some key → FoundBy k start own reads t n level x key
found_led k start own reads t n level x numbers part (SecondWord at) i r key rest real all parts few less h w a there leads e = no_key key e
found_led k start own reads t n level x numbers part (PartEntry goal gra at) i r key rest real all parts few less h w a there leads e =
    let p : PartStage = after_entry k.lpid gra r.value in
    let in_tree : IsInTree p = live k goal gra p rest real (λ z q. entry_no_entry k.lpid gra r.value z q) leads in
    as_found k start own reads t n level x (key_of PartDir k.lpid 0 r.left gra) key e
    (make_part k reads t n level (key_of PartDir k.lpid 0 r.left gra) x.part gra (root_bits r.value) p less refl (subst (λ is. HasPart k gra reads is p) (sym parts) (entry_part k reads part goal gra at i r h a there)) in_tree (entry_leaves k.lpid gra r.value in_tree)
    (λ other page. subst (λ l. SameOver l gra other) a.same_left page))
found_led k start own reads t n level x numbers part (PartTable goal gra m) i r key rest real all parts few less h w a there leads e = part_found k start own reads t n level x part goal gra m i r key rest real (is_leaf r.value) refl parts less h a there leads e
found_led k start own reads t n level x numbers part (ProcessEntry at) i r key rest real all parts few less h w a there leads e =
    let found : Key = key_of ProcessDir k.lpid k.pid r.left k.address in
    let table : HasTable k (ProcessEntry at) r.value = entry_table k at r.value rest real (nat_lt 52 (root_bits r.value)) (nat_le (2 ^ root_bits r.value) k.address) refl refl leads in
    as_found k start own reads t n level x found key e
    (subst (λ is. LedProcess k start reads (fill_of t n found level is)) (sym all)
    (make_process k start reads t n level found numbers i r (ProcessEntry at) (subst (λ is. length is ≤ 36) all few) refl refl refl refl w a there table))
found_led k start own reads t n level x numbers part (ProcessTable m at) i r key rest real all parts few less h w a there leads e = process_found k start own reads t n level x numbers m at i r key rest real (is_leaf r.value) refl all few w a there leads e
found_led k start own reads t n level x numbers part (Over out) i r key rest real all parts few less h w a there leads e = absurd a

abbrev pub IsLedFill : Task → Stage → Option Key → List ReadRow → FillRow → Type 0
IsLedFill k start own reads f = IsLed k start own reads f f.key.kind

first_by : (k : Task) (start : Stage) (own : Option Key) (reads : List ReadRow) (t n level : ℕ) (x : SoFar) (key : Key) (b : Bool) → FoundBy k start own reads t n level x key → AllByRecursion (IsLedFill k start own reads) (fills_for t n x level (if b then [] else key ∷ []))
first_by k start own reads t n level x key true h = tt
first_by k start own reads t n level x key false h = (h, tt)

first_ones : (k : Task) (start : Stage) (own : Option Key) (reads : List ReadRow) (t n level : ℕ) (keys : List Key) (x : SoFar) (new : Bool) (o : Option Key) → ((key : Key) → o ≡ Some key → FoundBy k start own reads t n level x key) →
    AllByRecursion (IsLedFill k start own reads) (fills_for t n x level (first_found own keys new o))
first_ones k start own reads t n level keys x false o h = tt
first_ones k start own reads t n level keys x true None h = tt
first_ones k start own reads t n level keys x true (Some key) h = first_by k start own reads t n level x key (is_own key own || has_key key keys) (h key refl)

all_append : {X : Type 0} (P : X → Type 0) (xs ys : List X) → AllByRecursion P xs → AllByRecursion P ys → AllByRecursion P (xs ++ ys)
all_append P [] ys a b = b
all_append P (x ∷ xs) ys a b = (a.0, all_append P xs ys a.1 b)

part_longer : (part : List ℕ) (i : ℕ) (b : Bool) → length ((if b then [] else part) ++ i ∷ []) ≤ length part + 1
part_longer part i true = omega arith
part_longer part i false = omega (arith, length-append part (i ∷ []))

-- the items are rows
abbrev pub AreNumbered : List ReadRow → List NumberedItem → Type 0
AreNumbered reads [] = Unit {0}
AreNumbered reads (item ∷ items) = (slice_get reads item.number ≡ Some item.row) × AreNumbered reads items

abbrev pub rows_in : List NumberedItem → List ReadRow
rows_in [] = []
rows_in (item ∷ items) = item.row ∷ rows_in items

-- the ask's own fill is led too, if it has one
abbrev pub OwnLed : Task → Stage → Option Key → List ReadRow → ℕ → ℕ → ℕ → Type 0
OwnLed k start own reads t n real = (x : SoFar) → length x.numbers ≤ 36 → HasWhole k start reads x.numbers (Over (Page real)) → AllByRecursion (IsLedFill k start own reads) (own_fill t n x own)

-- each fill of a finished walk to a page is led by its readings
pub all_led : (k : Task) (start : Stage) (own : Option Key) (reads : List ReadRow) (t n : ℕ) (real : ℕ) → OwnLed k start own reads t n real → (s : Stage) (x : SoFar) (items : List NumberedItem)
    → PartSoFar k reads x.part s → HasWhole k start reads x.numbers s → AreNumbered reads items → Follows k s (rows_in items) → length x.part ≤ length x.numbers → length x.numbers + length items ≤ 36 → stage_after k s (rows_in items) ≡ Over (Page real)
    → AllByRecursion (IsLedFill k start own reads) (fills_from t n k own s x items)
all_led k start own reads t n real own_led s x [] part all named follows fewer few leads = own_led x (omega (arith, few)) (subst (λ y. HasWhole k start reads x.numbers y) leads all)
all_led k start own reads t n real own_led s x (item ∷ items) part all named follows fewer few leads =
    let taken : SoFar = taking s x item in
    let found : List Key = first_found own x.keys item.is_new (found_at k s item.row) in
    let longer : length taken.part ≤ length x.part + 1 = part_longer x.part item.number (begins_part s) in
    let one_more : length taken.numbers ≡ length x.numbers + 1 = length-append x.numbers (item.number ∷ []) in
    all_append (IsLedFill k start own reads) (fills_for t n taken item.row.level found) (fills_from t n k own (next k s item.row.value) (record taken { keys = x.keys ++ found }) items)
    (first_ones k start own reads t n item.row.level x.keys taken item.is_new (found_at k s item.row)
    (λ key e. found_led k start own reads t n item.row.level taken x.numbers x.part s item.number item.row key (rows_in items) real refl refl (omega (arith, one_more, few)) (omega (arith, longer, fewer, few)) part all follows.0 named.0 leads e))
    (all_led k start own reads t n real own_led (next k s item.row.value) (record taken { keys = x.keys ++ found }) items (next_so_far k reads x.part s item.number item.row part follows.0 named.0)
    (whole_more k start reads x.numbers s item.number item.row all follows.0 named.0) named.1 follows.1 (omega (arith, longer, one_more, fewer)) (omega (arith, one_more, few)) leads)
