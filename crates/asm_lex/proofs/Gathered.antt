-- Tokens that were read, and those still to come.
use Rattle.std.proofs.Common.{◌≡◌, ◌≤◌, ◌<◌, ℕ, List, [], ◌∷◌, ◌++◌, length, Some, None, Ok, Err, refl, sym, ap, ◌∙◌, arith, append_assoc}
use Rattle.std.specs.Prelude.{Result}
use Rattle.std.proofs.lemmas.List.{append-nil}
use Rattle.asm_lex.specs.declared.token.Token.{Token}
use Rattle.asm_lex.specs.declared.fault.LexFault.{LexFault}
use Rattle.asm_lex.specs.declared.fault.LexFault.TheVariants.{BadByte, NumberTooWide, Memory}
use Rattle.asm_lex.specs.Tokens.{prepended, tokens_of, Cursor, tokens_at, LiesIn, InOrder, ReadsOne, Reads}

abbrev pub joined : List Token → Result (List Token) LexFault → Result (List Token) LexFault
joined ts (Ok us) = Ok (ts ++ us)
joined ts (Err f) = Err f

joined-push : (ts : List Token) (t : Token) (rest : Result (List Token) LexFault) → joined ts (prepended t rest) ≡ joined (ts ++ t ∷ []) rest
joined-push ts t (Ok us) = ap Ok (sym (append_assoc ts (t ∷ []) us))
joined-push ts t (Err f) = refl

joined-none : (rest : Result (List Token) LexFault) → joined [] rest ≡ rest
joined-none (Ok us) = refl
joined-none (Err f) = refl

-- the place behind the last of some tokens
abbrev pub ends : ℕ → List Token → ℕ
ends place [] = place
ends place (t ∷ ts) = ends t.to ts

in_order-push : (bytes : List ℕ) (place : ℕ) (ts : List Token) (t : Token) → InOrder bytes place ts → LiesIn bytes (ends place ts) t → InOrder bytes place (ts ++ t ∷ [])
in_order-push bytes place [] t order lies = (lies, tt)
in_order-push bytes place (u ∷ ts) t order lies = (order.0, in_order-push bytes u.to ts t order.1 lies)

ends-push : (place : ℕ) (ts : List Token) (t : Token) → ends place (ts ++ t ∷ []) ≡ t.to
ends-push place [] t = refl
ends-push place (u ∷ ts) t = ends-push u.to ts t

-- what the loop keeps
pub record Gathered (bytes : List ℕ) (c : Cursor) (ts : List Token) : Type 0 where
  pub same_bytes : c.bytes ≡ bytes
  pub within : c.place ≤ length bytes
  pub same : tokens_of bytes ≡ joined ts (tokens_at c)
  pub order : InOrder bytes 0 ts
  pub ends_there : ends 0 ts ≡ c.place

pub gathered-none : (bytes : List ℕ) (c : Cursor) → c ≡ record { bytes = bytes; place = 0 } → Gathered bytes c []
gathered-none bytes c e = record {
  same_bytes = ap (λ (d : Cursor). d.bytes) e;
  within = omega (arith, ap (λ (d : Cursor). d.place) e);
  same = sym (joined-none (tokens_at c) ∙ ap (λ (d : Cursor). tokens_at d) e);
  order = tt;
  ends_there = sym (ap (λ (d : Cursor). d.place) e);
}

pub gathered-push : (bytes : List ℕ) (old new : Cursor) (ts : List Token) (t : Token) → Gathered bytes old ts → ReadsOne old new (Ok (Some t)) → Gathered bytes new (ts ++ t ∷ [])
gathered-push bytes old new ts t before read =
    let place : new.place ≡ t.to = ap (λ (d : Cursor). d.place) read.1 in
    let lies = rw before.same_bytes at read.2 in
    record {
      same_bytes = ap (λ (d : Cursor). d.bytes) read.1 ∙ before.same_bytes;
      within = omega (arith, place, lies.within);
      same = before.same ∙ ap (joined ts) read.0 ∙ joined-push ts t (tokens_at new);
      order = in_order-push bytes 0 ts t before.order (rw before.ends_there lies);
      ends_there = ends-push 0 ts t ∙ sym place;
    }

pub gathered-smaller : (bytes : List ℕ) (old new : Cursor) (ts : List Token) (t : Token) → Gathered bytes old ts → ReadsOne old new (Ok (Some t)) → (old.place < new.place) × (new.place ≤ length bytes)
gathered-smaller bytes old new ts t before read =
    let place : new.place ≡ t.to = ap (λ (d : Cursor). d.place) read.1 in
    let lies = rw before.same_bytes at read.2 in
    (omega (arith, place, lies.after, lies.some), omega (arith, place, lies.within))

pub gathered-all : (bytes : List ℕ) (c d : Cursor) (ts : List Token) → Gathered bytes c ts → ReadsOne c d (Ok None) → tokens_of bytes ≡ Ok ts
gathered-all bytes c d ts before read = before.same ∙ ap (joined ts) read.0 ∙ ap Ok (append-nil ts)

pub gathered-fault : (bytes : List ℕ) (c d : Cursor) (ts : List Token) (f : LexFault) → Gathered bytes c ts → ReadsOne c d (Err f) → Reads bytes (Err f)
gathered-fault bytes c d ts (BadByte k) before read = before.same ∙ ap (joined ts) read.0
gathered-fault bytes c d ts (NumberTooWide k) before read = before.same ∙ ap (joined ts) read.0
gathered-fault bytes c d ts Memory before read = tt
