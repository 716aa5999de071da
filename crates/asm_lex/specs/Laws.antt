-- Laws of tokens.
use Rattle.std.specs.Prelude.{◌≡◌, ◌+◌, ℕ, List, [], ◌∷◌, ◌++◌, length, map, Result, Ok, Err, true}
use Rattle.asm_lex.specs.declared.classes.Class.TheVariants as classes
use Rattle.asm_lex.specs.declared.token.Token.{Token}
use Rattle.asm_lex.specs.declared.fault.LexFault.{LexFault}
use Rattle.asm_lex.specs.declared.fault.LexFault.TheVariants.{BadByte, NumberTooWide, Memory}
use Rattle.asm_lex.specs.Classes.{every}
use Rattle.asm_lex.specs.Tokens.{tokens_of}

-- tokens, and those of what follows; the first fault of both
abbrev pub and_then_tokens : Result (List Token) LexFault → Result (List Token) LexFault → Result (List Token) LexFault
and_then_tokens (Ok ts) (Ok us) = Ok (ts ++ us)
and_then_tokens (Ok ts) (Err fault) = Err fault
and_then_tokens (Err fault) rest = Err fault

-- tokens and faults of bytes that stand so much further on
abbrev pub moved_token : ℕ → Token → Token
moved_token by t = record { kind = t.kind; from = t.from + by; to = t.to + by }

abbrev pub moved_fault : ℕ → LexFault → LexFault
moved_fault by (BadByte place) = BadByte (place + by)
moved_fault by (NumberTooWide place) = NumberTooWide (place + by)
moved_fault by Memory = Memory

abbrev pub moved : ℕ → Result (List Token) LexFault → Result (List Token) LexFault
moved by (Ok ts) = Ok (map (moved_token by) ts)
moved by (Err fault) = Err (moved_fault by fault)

-- The tokens of a text are those of its first line with its newline, and then those of the lines after it.
abbrev pub TokensByLines : Type 0
TokensByLines =
    (line rest : List ℕ) → every classes.Comment line ≡ true →
    tokens_of (line ++ 10 ∷ rest) ≡ and_then_tokens (tokens_of (line ++ 10 ∷ [])) (moved (length line + 1) (tokens_of rest))
