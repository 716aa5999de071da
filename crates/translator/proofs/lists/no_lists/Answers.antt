use Rattle.std.proofs.Common.{◌≡◌, ℕ, zero, suc, List, [], ◌∷◌, get_or, refl}
use Rattle.translator.specs.declared.places.KeptPlace.{KeptPlace}
use Rattle.translator.proofs.lists.no_lists.Goals as goal

four : (a b c d : List KeptPlace) → a ≡ [] → b ≡ [] → c ≡ [] → d ≡ [] → (t : ℕ) → get_or (a ∷ (b ∷ (c ∷ (d ∷ [])))) t [] ≡ []
four a b c d ea eb ec ed zero = ea
four a b c d ea eb ec ed (suc zero) = eb
four a b c d ea eb ec ed (suc (suc zero)) = ec
four a b c d ea eb ec ed (suc (suc (suc zero))) = ed
four a b c d ea eb ec ed (suc (suc (suc (suc t)))) = refl

pub returns : goal.returns
returns c = four c.new.result c.new-2.result c.new-3.result c.new-4.result c.new.ensures c.new-2.ensures c.new-3.ensures c.new-4.ensures
