-- Adding up terms one by one.
use Rattle.std.proofs.Common.{◌≡◌, ℕ, ◌+◌, ◌-◌, ◌*◌, ◌≤◌, ◌^◌, Bool, true, false, List, ◌∷◌, length, sym, subst, arith, ℤ, pos, negsuc, ◌+ℤ◌, ◌-ℤ◌}
use Rattle.std.specs.Prelude.{◌&&◌, ◌||◌, if◌then◌else◌}
use Rattle.std.proofs.lemmas.Int.{ints}
use Rattle.asm_statements.specs.declared.expression.Term.{Term}
use Rattle.asm_places.specs.Names.{Definition}
use Rattle.asm_places.specs.Sums.{total, all_known, uses_here, atom_value, is_known_atom, is_here}
use Rattle.asm_places.specs.Adding.{atom_sum, with_term, IsUpTo, Added}
use Rattle.asm_places.specs.Keeping.{IsSmall}
use Rattle.asm_places.specs.declared.sum.Sum.{Sum}

-- a term moves from what is left to what was added up
value-next : (negative : Bool) (whole sum term left : ℤ) → whole ≡ sum +ℤ ((if negative then pos 0 -ℤ term else term) +ℤ left) → whole ≡ (if negative then sum -ℤ term else sum +ℤ term) +ℤ left
value-next true whole sum term left e = omega (arith, ints)
value-next false whole sum term left e = omega (arith, ints)

-- likewise whether all names are known, and whether the address of the statement is a term
and-next : (whole a b c : Bool) → whole ≡ (a && (b && c)) → whole ≡ ((a && b) && c)
and-next whole true b c e = e
and-next whole false b c e = e

or-next : (whole a b c : Bool) → whole ≡ (a || (b || c)) → whole ≡ ((a || b) || c)
or-next whole true b c e = e
or-next whole false b c e = e

-- the difference of two numbers is no more than the bound of both, whatever its sign
up_to : (terms : ℕ) (z : ℤ) (p n : ℕ) → p ≤ terms * 2 ^ 65 → n ≤ terms * 2 ^ 65 → z ≡ pos p -ℤ pos n → IsUpTo terms z
up_to terms (pos z) p n a b e = omega (arith, ints)
up_to terms (negsuc z) p n a b e = omega (arith, ints)

-- a small number more or less is one term more
bound-sum : (terms : ℕ) (z x : ℤ) → IsUpTo terms z → IsSmall x → IsUpTo (terms + 1) (z +ℤ x)
bound-sum terms (pos z) (pos x) a b = up_to (terms + 1) (pos z +ℤ pos x) (z + x) 0 (omega arith) (omega arith) (omega (arith, ints))
bound-sum terms (pos z) (negsuc x) a b = up_to (terms + 1) (pos z +ℤ negsuc x) z (x + 1) (omega arith) (omega arith) (omega (arith, ints))
bound-sum terms (negsuc z) (pos x) a b = up_to (terms + 1) (negsuc z +ℤ pos x) x (z + 1) (omega arith) (omega arith) (omega (arith, ints))
bound-sum terms (negsuc z) (negsuc x) a b = up_to (terms + 1) (negsuc z +ℤ negsuc x) 0 (z + x + 2) (omega arith) (omega arith) (omega (arith, ints))

bound-difference : (terms : ℕ) (z x : ℤ) → IsUpTo terms z → IsSmall x → IsUpTo (terms + 1) (z -ℤ x)
bound-difference terms (pos z) (pos x) a b = up_to (terms + 1) (pos z -ℤ pos x) z x (omega arith) (omega arith) (omega (arith, ints))
bound-difference terms (pos z) (negsuc x) a b = up_to (terms + 1) (pos z -ℤ negsuc x) (z + x + 1) 0 (omega arith) (omega arith) (omega (arith, ints))
bound-difference terms (negsuc z) (pos x) a b = up_to (terms + 1) (negsuc z -ℤ pos x) 0 (z + x + 1) (omega arith) (omega arith) (omega (arith, ints))
bound-difference terms (negsuc z) (negsuc x) a b = up_to (terms + 1) (negsuc z -ℤ negsuc x) (x + 1) (z + 1) (omega arith) (omega arith) (omega (arith, ints))

bound-next : (negative : Bool) (before after : ℕ) (z x : ℤ) → after ≡ before + 1 → IsUpTo before z → IsSmall x → IsUpTo after (if negative then z -ℤ x else z +ℤ x)
bound-next true before after z x e a b = subst (λ (n : ℕ). IsUpTo n (z -ℤ x)) (sym e) (bound-difference before z x a b)
bound-next false before after z x e a b = subst (λ (n : ℕ). IsUpTo n (z +ℤ x)) (sym e) (bound-sum before z x a b)

-- a term taken from what is left is added
pub added-next : (names : List Definition) (here : ℤ) (whole left : List Term) (t : Term) (sum : Sum) → IsSmall (atom_sum names here t.atom).value
    → Added names here whole (t ∷ left) sum → Added names here whole left (with_term sum t.negative (atom_sum names here t.atom))
added-next names here whole left t sum small before = record {
  value = value-next t.negative _ sum.value (atom_value names here t.atom) (total names here left) before.value;
  known = and-next _ sum.is_known (is_known_atom names t.atom) (all_known names left) before.known;
  at = or-next _ sum.uses_here (is_here t.atom) (uses_here left) before.at;
  fewer = let h = before.fewer in omega arith;
  bound = bound-next t.negative (length whole - length (t ∷ left)) (length whole - length left) sum.value (atom_value names here t.atom) (let h = before.fewer in omega arith) before.bound small;
}
