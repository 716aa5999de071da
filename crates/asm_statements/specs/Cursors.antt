-- Pieces that are still to be read, and what reading one gives.
use Rattle.std.specs.Prelude.{◌≡◌, List, [], ◌∷◌, ℕ, Bool, true, false, Option, Some, None}
use Rattle.asm_statements.specs.declared.piece.Sign.{Sign}
use Rattle.asm_statements.specs.declared.piece.Sign.TheVariants as signs
use Rattle.asm_statements.specs.declared.piece.Piece.{Piece}
use Rattle.asm_statements.specs.declared.pieces.Pieces.TheInside.{Inside}
use Rattle.asm_statements.specs.Pieces.{pieces_of, has_tokens, before, behind}
use Rattle.asm_statements.specs.declared.pieces.First.{First}

-- the pieces before the first that is a sign, where the sign is an end
abbrev pub until : Bool → Sign → List Piece → List Piece
until true s ps = before s ps
until false s ps = ps

abbrev pub pieces_left : Inside → List Piece
pieces_left p = until p.ends_at_comma signs.Comma (until p.ends_at_open signs.Open (pieces_of p.rest.now))

pub record HasTokens (p : Inside) : Type 0 where
  pub all : has_tokens p.rest.now ≡ true

-- the first piece is taken, where there is one
abbrev pub TakesFirst : {A : Type 0} → List A → List A → Option A → Type 0
TakesFirst old new (Some p) = old ≡ p ∷ new
TakesFirst old new None = (old ≡ []) × (new ≡ [])

-- all pieces up to and including the first that is a sign are taken
abbrev pub SkipsPast : Sign → List Piece → List Piece → Bool → Type 0
SkipsPast s old new true = behind s old ≡ Some new
SkipsPast s old new false = (behind s old ≡ None) × (new ≡ [])

-- the first piece of bytes, and the bytes behind it
abbrev pub Begins : List ℕ → Option First → Type 0
Begins rest (Some f) = (pieces_of rest ≡ f.piece ∷ pieces_of f.after) × (has_tokens f.after ≡ true)
Begins rest None = pieces_of rest ≡ []
