use Rattle.std.proofs.Common.{◌≤◌, ◌+◌, length, Some, refl, ap, ◌∙◌, inl, inr}
use Rattle.std.proofs.lemmas.Bool.{cases_lt}
use Rattle.real_store.proofs.WordLemmas.{word_within, word_outside}
use Rattle.real_store.proofs.store.StoreTableReader.table_word.Goals as goal

pub returns-in-Ok : goal.returns-in-Ok
returns-in-Ok c =
    let ram = c.args.self.now.ram in
    let within : c.args.at + 8 ≤ length ram = elim (cases_lt (length ram) (c.args.at + 8)) [ inl out ↦ absurd (let never = c.in-Ok.ensures.refused.1 out in cc) | inr within ↦ within ] in
    ap Some c.swap_bytes.ensures ∙ word_within ram c.args.at c.in-Ok.word c.holds_bytes.ensures within c.in-Ok.ensures.value

pub returns-in-Err : goal.returns-in-Err
returns-in-Err c = word_outside c.args.self.now.ram c.args.at (c.in-Err.ensures.refused.0 refl)
