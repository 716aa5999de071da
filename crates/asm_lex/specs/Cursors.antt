-- What a lexer keeps beside what contracts see of it.
use Rattle.std.specs.Prelude.{◌≤◌, length}
use Rattle.asm_lex.specs.declared.lexer.Lexer.TheInside.{Inside}
use Rattle.asm_lex.specs.Tokens.{Cursor}

abbrev pub cursor_of : Inside → Cursor
cursor_of l = record { bytes = l.bytes.now; place = l.place }

pub record IsCursor (l : Inside) : Type 0 where
  pub within : l.place ≤ length l.bytes.now
