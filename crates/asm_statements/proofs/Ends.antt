-- Pieces before the first that is a sign.
use Rattle.std.proofs.Common.{◌≡◌, Bool, true, false, cond, List, [], ◌∷◌, refl, sym, ap, ◌∙◌}
use Rattle.asm_statements.specs.declared.piece.Sign.{Sign}
use Rattle.asm_statements.specs.declared.piece.Piece.{Piece}
use Rattle.asm_statements.specs.Pieces.{is_sign, before}
use Rattle.asm_statements.specs.Cursors.{until}

before-nested : (s : Sign) (b : Bool) (p : Piece) (ps qs : List Piece) → is_sign s p ≡ b → before s ps ≡ qs → before s (p ∷ ps) ≡ cond b [] (p ∷ qs)
before-nested s b p ps qs e rest = rw (e, rest) refl

-- before the same sign once more
pub before-before : (s : Sign) (ps : List Piece) → before s (before s ps) ≡ before s ps
before-before s [] = refl
before-before s (p ∷ ps) = cases (is_sign s p) refl (before-before s ps)
  where
    cases : (b : Bool) → is_sign s p ≡ b → before s (before s ps) ≡ before s ps → before s (cond b [] (p ∷ before s ps)) ≡ cond b [] (p ∷ before s ps)
    cases true e rest = refl
    cases false e rest = before-nested s false p (before s ps) (before s ps) e rest

-- before one of two signs
pub before-swap : (s t : Sign) (ps : List Piece) → before s (before t ps) ≡ before t (before s ps)
before-swap s t [] = refl
before-swap s t (p ∷ ps) = cases (is_sign s p) (is_sign t p) refl refl (before-swap s t ps)
  where
    cases : (a b : Bool) → is_sign s p ≡ a → is_sign t p ≡ b → before s (before t ps) ≡ before t (before s ps)
        → before s (cond b [] (p ∷ before t ps)) ≡ before t (cond a [] (p ∷ before s ps))
    cases true true e f rest = refl
    cases true false e f rest = before-nested s true p (before t ps) (before s (before t ps)) e refl
    cases false true e f rest = sym (before-nested t true p (before s ps) (before t (before s ps)) f refl)
    cases false false e f rest =
        before-nested s false p (before t ps) (before t (before s ps)) e rest
        ∙ sym (before-nested t false p (before s ps) (before t (before s ps)) f refl)

pub before-until : (s : Sign) (b : Bool) (ps : List Piece) → before s (until b s ps) ≡ before s ps
before-until s true ps = before-before s ps
before-until s false ps = refl

pub until-before : (s t : Sign) (b c : Bool) (ps : List Piece) → until b s (before t ps) ≡ before t (until b s (until c t ps))
until-before s t true c ps = ap (before s) (sym (before-until t c ps)) ∙ before-swap s t (until c t ps)
until-before s t false c ps = sym (before-until t c ps)
