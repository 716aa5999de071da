-- What reads an entry of a table (Power ISA, Book III, 5.7).
use Rattle.journal_core.specs.declared.asks.AccessKind.TheVariants.{Load}
use Rattle.journal_core.specs.declared.asks.Ask.{Ask}

-- an entry is loaded, whatever the ask does
abbrev pub table_ask : Ask → Ask
table_ask ask = record { ea = ask.ea; access = Load; msr = ask.msr; lpid = ask.lpid; pid = ask.pid; ptcr = ask.ptcr; amr = ask.amr; iamr = ask.iamr }
