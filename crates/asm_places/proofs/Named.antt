-- Names of a list of definitions.
use Rattle.std.proofs.Common.{◌≡◌, ◌<◌, ◌≤◌, ℕ, suc, zero, List, [], ◌∷◌, ◌++◌, map, get_or, take, cond, Bool, true, false, slice_get, Option, Some, None, is_some, ℤ, pos, negsuc, Bor, refl, ap, sym, subst, ◌∙◌, true≢false, arith}
use Rattle.std.proofs.lemmas.List.{map-append}
use Rattle.std.proofs.lemmas.List.Quantifiers.{position-Some}
use Rattle.std.proofs.lemmas.Slice.Eq.{bytes_eq-Decides}
use Rattle.std.proofs.lemmas.Bool.{false_from_ne_true}
use Rattle.std.proofs.lemmas.Int.{to_z-of_z}
use Rattle.std.specs.Str.{bytes_eq}
use Rattle.std.specs.Map.{lookup, keys_of}
use Rattle.std.specs.List.{position}
use mir.Syntax.{w128}
use mir.Val.{SFits, to_z, of_z}
use Rattle.indexmap.specs.IndexMap.{IndexMap, insert_entry}
use Rattle.indexmap.proofs.CallerLemmas.{insert_entry-new}
use Rattle.asm_places.specs.Names.{Definition, defined, value_of, is_defined}
use Rattle.asm_places.specs.Keeping.{IsSmall, AreSmall}

bytes_eq_sym : (a b : List ℕ) → bytes_eq a b ≡ bytes_eq b a
bytes_eq_sym a b = by (bytes_eq b a) refl
  where
    by : (t : Bool) → bytes_eq b a ≡ t → bytes_eq a b ≡ bytes_eq b a
    by true e = (bytes_eq-Decides a b).1 (sym ((bytes_eq-Decides b a).0 e)) ∙ sym e
    by false e = false_from_ne_true _ (λ h. true≢false (sym ((bytes_eq-Decides b a).1 (sym ((bytes_eq-Decides a b).0 h))) ∙ e)) ∙ sym e

-- the definitions that a map's entries stand for
abbrev pub definitions : List (Bor (List ℕ) × ℤ) → List Definition
definitions es = map (λ e. defined e.0.now e.1) es

abbrev pub is_key : List ℕ → Bor (List ℕ) → Bool
is_key name k = bytes_eq name k.now

pub value_of-lookup : (es : List (Bor (List ℕ) × ℤ)) (name : List ℕ) → value_of (definitions es) name ≡ lookup (is_key name) es
value_of-lookup [] name = refl
value_of-lookup (e ∷ es) name = λ i. cond (bytes_eq_sym e.0.now name i) (Some e.1) (value_of-lookup es name i)

step_none : (t : Bool) (v : ℤ) (r s : Option ℤ) → cond t (Some v) r ≡ None → (r ≡ None → s ≡ None) → cond t (Some v) s ≡ None
step_none true v r s h f = h
step_none false v r s h f = f h

-- not defined, so not among the first either
pub none_first : (ds : List Definition) (known : ℕ) (name : List ℕ) → value_of ds name ≡ None → value_of (take known ds) name ≡ None
none_first ds zero name h = refl
none_first [] (suc known) name h = refl
none_first (d ∷ ds) (suc known) name h =
    step_none (bytes_eq d.name name) d.value (value_of ds name) (value_of (take known ds) name) h (none_first ds known name)

-- i is the first place of the name
pub record IsFirst (default : Bor (List ℕ)) (es : List (Bor (List ℕ) × ℤ)) (name : List ℕ) (i : ℕ) : Type 0 where
  pub before : (k : ℕ) → k < i → is_key name (get_or (keys_of es) k default) ≡ false
  pub here : is_key name (get_or (keys_of es) i default) ≡ true

pub first_from_position : (default : Bor (List ℕ)) (es : List (Bor (List ℕ) × ℤ)) (name : List ℕ) (i : ℕ) → position (is_key name) (keys_of es) ≡ Some i → IsFirst default es name i
first_from_position default es name i h =
    let p = position-Some (is_key name) (keys_of es) i default h in
    record { before = p.2; here = p.1 }

module _ (default : Bor (List ℕ)) (name : List ℕ) where
  later_first : (e : Bor (List ℕ) × ℤ) (es : List (Bor (List ℕ) × ℤ)) (i : ℕ) → IsFirst default (e ∷ es) name (suc i) → IsFirst default es name i
  later_first e es i f = record { before = λ k h. f.before (suc k) (omega arith); here = f.here }

  passed_over : (e : Bor (List ℕ) × ℤ) (es : List (Bor (List ℕ) × ℤ)) (known i : ℕ) → IsFirst default (e ∷ es) name (suc i) → value_of (take (suc known) (definitions (e ∷ es))) name ≡ value_of (take known (definitions es)) name
  passed_over e es known i f =
      ap (λ t. cond t (Some e.1) (value_of (take known (definitions es)) name)) (bytes_eq_sym e.0.now name ∙ f.before 0 (omega arith))

  -- where it is below `known`, the value there
  pub value_first : (es : List (Bor (List ℕ) × ℤ)) (i known : ℕ) (k : Bor (List ℕ)) (v : ℤ) → slice_get es i ≡ Some (k, v) → IsFirst default es name i → i < known → value_of (take known (definitions es)) name ≡ Some v
  value_first [] i known k v at f h = cc
  value_first (e ∷ es) i zero k v at f h = absurd (omega arith)
  value_first (e ∷ es) zero (suc known) k v at f h =
      let same : e ≡ (k, v) = cc in
      ap (λ t. cond t (Some e.1) (value_of (take known (definitions es)) name)) (bytes_eq_sym e.0.now name ∙ f.here) ∙ ap (λ p. Some p.1) same
  value_first (e ∷ es) (suc i) (suc known) k v at f h =
      passed_over e es known i f ∙ value_first es i known k v at (later_first e es i f) (omega arith)

  -- and otherwise none
  pub none_before_first : (es : List (Bor (List ℕ) × ℤ)) (i known : ℕ) → IsFirst default es name i → known ≤ i → value_of (take known (definitions es)) name ≡ None
  none_before_first es i zero f h = refl
  none_before_first [] i (suc known) f h = refl
  none_before_first (e ∷ es) zero (suc known) f h = absurd (omega arith)
  none_before_first (e ∷ es) (suc i) (suc known) f h =
      passed_over e es known i f ∙ none_before_first es i known (later_first e es i f) (omega arith)

-- each value is small
pub small_at : (es : List (Bor (List ℕ) × ℤ)) (i : ℕ) (k : Bor (List ℕ)) (v : ℤ) → slice_get es i ≡ Some (k, v) → AreSmall (definitions es) → IsSmall v
small_at [] i k v at h = cc
small_at (e ∷ es) zero k v at h = let same : e ≡ (k, v) = cc in subst (λ (p : Bor (List ℕ) × ℤ). IsSmall p.1) same h.0
small_at (e ∷ es) (suc i) k v at h = small_at es i k v at h.1

pub AreSmall-push : (ds : List Definition) (d : Definition) → AreSmall ds → IsSmall d.value → AreSmall (ds ++ d ∷ [])
AreSmall-push [] d h s = (s, tt)
AreSmall-push (x ∷ xs) d h s = (h.0, AreSmall-push xs d h.1 s)

-- and fits
small_fits : (v : ℤ) → IsSmall v → SFits w128 v
small_fits (pos n) h = record { sfits = omega arith }
small_fits (negsuc n) h = record { sfits = omega arith }

pub small_same : (v : ℤ) → IsSmall v → to_z w128 (of_z w128 v) ≡ v
small_same v h = to_z-of_z w128 v (small_fits v h)

none_of : (r : Option ℤ) → is_some r ≡ false → r ≡ None
none_of None h = refl
none_of (Some v) h = absurd (true≢false h)

-- a name that is not defined goes last
pub definitions_after : {S : Type 0} (m n : IndexMap (Bor (List ℕ)) ℤ S) (name : Bor (List ℕ)) (v : ℤ)
    → is_defined (definitions m.entries) name.now ≡ false → IsSmall v
    → n.entries ≡ insert_entry (λ x y. bytes_eq x.now y.now) m.entries name (to_z w128 (of_z w128 v))
    → definitions n.entries ≡ definitions m.entries ++ defined name.now v ∷ []
definitions_after m n name v new small h =
    let w = to_z w128 (of_z w128 v) in
    let none = sym (value_of-lookup m.entries name.now) ∙ none_of (value_of (definitions m.entries) name.now) new in
    ap definitions (h ∙ insert_entry-new (λ x y. bytes_eq x.now y.now) m name w none)
    ∙ map-append (λ e. defined e.0.now e.1) m.entries ((name, w) ∷ [])
    ∙ ap (λ z. definitions m.entries ++ defined name.now z ∷ []) (small_same v small)
