-- What each word comes to, over registers, storage and devices.
use Rattle.std.specs.Prelude.{ℕ, if◌then◌else◌, List, [], Option, Some, None}
use Rattle.journal_core.specs.declared.asks.Ask.{Ask}
use Rattle.journal_core.specs.declared.causes.Cause.{Cause}
use Rattle.journal_core.specs.declared.rows.StopName.TheVariants as stops
use Rattle.form_outcomes.specs.Outcomes.{Outcome, Goes, Takes, Stops, unless, unsupported}
use Rattle.form_outcomes.specs.Programs.{assist}
use Rattle.ppc_ops.specs.declared.op.Op.{Op}
use Rattle.ppc_ops.specs.declared.insn.Insn.{Insn}
use Rattle.ppc_ops.specs.declared.insn.Insn.TheVariants.{Access, AccessX, Block}
use Rattle.ppc_ops.specs.Classes.{inhibits_caching}
use Rattle.word_decoder.specs.declared.decoded.Decoded.{Decoded}
use Rattle.word_decoder.specs.declared.decoded.Decoded.TheVariants.{Form, Zero, InvalidForm, Unsupported}
use Rattle.word_decoder.specs.Decode.{decoded_of}
use Rattle.thread_regs.specs.declared.registers.Thread.{Thread}
use Rattle.thread_regs.specs.Registers.{advanced}
use Rattle.system_ops.specs.Refusals.{hypervisor_only}
use Rattle.storage_ops.specs.AccessTable.{access_form}
use Rattle.storage_ops.specs.Deeds.{deed_of, reserves_by}
use Rattle.storage_ops.specs.Reaching.{asks_of, and_then}
use Rattle.storage_ops.specs.Effects.{After, Around, registers, storage_outcome}
use Rattle.ppc_step.specs.Effects.{thread_outcome}

-- a form that works on registers alone
abbrev pub alone : Outcome Thread → Outcome After
alone outcome = and_then outcome (λ t. Goes (registers t))

-- gone on to the next instruction
abbrev pub onward : After → Outcome After
onward a = Goes (record a { thread = advanced a.thread })

-- a load, a store or a form of cache blocks, which goes on to the next instruction
abbrev pub access_outcome : Insn → Thread → Around → Outcome After
access_outcome i t x = and_then (storage_outcome i t x) onward

-- why a load or store is refused before its address is looked at: one that does not use caches is the hypervisor's
abbrev pub refusal_of : Op → ℕ → Thread → Option Cause
refusal_of op word t = if inhibits_caching op then hypervisor_only word t.msr else None

-- loads and stores at the sum of two registers; those with a reservation are not executed yet
abbrev pub indexed_outcome : Insn → Op → ℕ → Thread → Around → Outcome After
indexed_outcome i op word t x = if reserves_by (access_form op) then unsupported word else unless (refusal_of op word t) (access_outcome i t x)

-- what the form of this word comes to
unfoldable pub form_outcome : Insn → ℕ → Thread → Around → Outcome After
form_outcome (Access op rt ra disp) word t x = access_outcome (Access op rt ra disp) t x
form_outcome (AccessX op rt ra rb) word t x = indexed_outcome (AccessX op rt ra rb) op word t x
form_outcome (Block op ra rb) word t x = access_outcome (Block op ra rb) t x
form_outcome other word t x = alone (thread_outcome other word t)

-- no ask of what is refused
abbrev pub asks_unless : Option Cause → List Ask → List Ask
asks_unless (Some cause) asks = []
asks_unless None asks = asks

abbrev pub indexed_asks : Insn → Op → ℕ → Thread → List Ask
indexed_asks i op word t = if reserves_by (access_form op) then [] else asks_unless (refusal_of op word t) (asks_of (deed_of i t) t)

-- the asks of the form of this word for data
unfoldable pub form_asks : Insn → ℕ → Thread → List Ask
form_asks (Access op rt ra disp) word t = asks_of (deed_of (Access op rt ra disp) t) t
form_asks (AccessX op rt ra rb) word t = indexed_asks (AccessX op rt ra rb) op word t
form_asks (Block op ra rb) word t = asks_of (deed_of (Block op ra rb) t) t
form_asks other word t = []

-- a word of zeros is left to the hypervisor; what is no form stops the machine with the word
unfoldable pub decoded_outcome : Decoded → ℕ → Thread → Around → Outcome After
decoded_outcome (Form insn) word t x = form_outcome insn word t x
decoded_outcome Zero word t x = Takes (assist word)
decoded_outcome (InvalidForm op) word t x = Stops stops.InvalidForm word
decoded_outcome Unsupported word t x = unsupported word

unfoldable pub decoded_asks : Decoded → ℕ → Thread → List Ask
decoded_asks (Form insn) word t = form_asks insn word t
decoded_asks Zero word t = []
decoded_asks (InvalidForm op) word t = []
decoded_asks Unsupported word t = []

-- what a word comes to, and its asks for data
unfoldable pub word_outcome : ℕ → Thread → Around → Outcome After
word_outcome word t x = decoded_outcome (decoded_of word) word t x

unfoldable pub word_asks : ℕ → Thread → List Ask
word_asks word t = decoded_asks (decoded_of word) word t
