-- The rights of a leaf, and what refuses an access (Power ISA, Book III, radix tree translation). The order of the
-- tests is this machine's own.
use Rattle.std.specs.Prelude.{◌==◌, ◌&&◌, Bool, true, false, not, if◌then◌else◌, Option, Some, None}
use Rattle.journal_core.specs.declared.asks.AccessKind.{AccessKind}
use Rattle.journal_core.specs.declared.asks.Ask.{Ask}
use Rattle.journal_core.specs.Asks.{bits, is_one, is_fetch, is_load, is_store, is_problem}
use Rattle.journal_core.specs.declared.asks.Scope.{Scope}
use Rattle.journal_core.specs.declared.asks.Scope.TheVariants.{Process, Partition}
use Rattle.journal_core.specs.declared.asks.Rights.{Rights}
use Rattle.journal_core.specs.declared.asks.Denial.{Denial}
use Rattle.journal_core.specs.declared.asks.Denial.TheVariants.{Privilege, Read, Write, Execute, Guarded, Referenced, Changed}

abbrev pub is_process : Scope → Bool
is_process Process = true
is_process Partition = false

-- The first right that refuses an ask this access, which is its own, or a load where one of its tables is read. The bits of the authority are numbered as in the leaf:
-- 60 privileged, 61 read, 62 read and write, 63 execute.
unfoldable pub first_denial : Ask → Rights → AccessKind → Option Denial
first_denial ask x a =
    if is_process x.scope && (is_problem ask && is_one x.eaa 60) then Some Privilege
    else if is_load a && (bits x.eaa 61 62 == 0) then Some Read
    else if is_store a && not (is_one x.eaa 62) then Some Write
    else if is_fetch a && not (is_one x.eaa 63) then Some Execute
    else if is_fetch a && (x.att == 2) then Some Guarded
    else if not x.r then Some Referenced
    else if is_store a && not x.c then Some Changed
    else None
