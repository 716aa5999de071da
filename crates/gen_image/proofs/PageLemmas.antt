-- The pages of a guest.
use Rattle.std.proofs.Common.{◌≡◌, ℕ, ◌+◌, ◌-◌, ◌*◌, ◌≤◌, List, [], ◌++◌, length, replicate, ap, ◌∙◌, arith, append_assoc, length-append}
use Rattle.std.proofs.lemmas.List.{length-replicate}
use Rattle.gen_image.specs.Code.{guest_code, code_bytes}
use Rattle.gen_image.specs.Tables.{table_bytes, process_tables}
use Rattle.gen_image.specs.Generated.{guest_pages, padded}
use Rattle.gen_image.proofs.TableLemmas.{length-process_tables}
use Rattle.gen_image.proofs.CodeLemmas.{length-guest_code}

length-padded : (size : ℕ) (bytes : List ℕ) → length bytes ≤ size → length (padded size bytes) ≡ size
length-padded size bytes few = length-append bytes (replicate (size - length bytes) 0) ∙ ap (λ (n : ℕ). length bytes + n) (length-replicate {A = ℕ} (size - length bytes) 0) ∙ omega arith

pub length-guest_pages : (draws : List ℕ) → length draws ≤ 64 → length (guest_pages draws) ≡ 0x6000
length-guest_pages draws few =
    let code : List ℕ = code_bytes (guest_code draws) in
    let room : length code ≤ 0x1000 = omega (arith, length-guest_code draws) in
    omega (arith, length-append (table_bytes process_tables) (padded 0x1000 code), length-padded 0x1000 code room, length-process_tables)

module _ (draws none tables code : List ℕ) where
  content : none ≡ [] → tables ≡ none ++ table_bytes process_tables → code ≡ tables ++ code_bytes (guest_code draws)
      → code ≡ table_bytes process_tables ++ code_bytes (guest_code draws)
  content empty first second = second ∙ ap (λ (l : List ℕ). l ++ code_bytes (guest_code draws)) (first ∙ ap (λ (l : List ℕ). l ++ table_bytes process_tables) empty)

  content-length : none ≡ [] → tables ≡ none ++ table_bytes process_tables → code ≡ tables ++ code_bytes (guest_code draws)
      → length code ≡ 0x5000 + (20 * length draws + 8)
  content-length empty first second =
      ap (λ (l : List ℕ). length l) (content empty first second)
      ∙ omega (arith, length-append (table_bytes process_tables) (code_bytes (guest_code draws)), length-process_tables, length-guest_code draws)

  -- The pages have room for the code.
  pub has-room : none ≡ [] → tables ≡ none ++ table_bytes process_tables → code ≡ tables ++ code_bytes (guest_code draws) → length draws ≤ 64 → length code ≤ 0x6000
  has-room empty first second few = omega (arith, content-length empty first second)

  -- Tables, code and zeros are the pages.
  pub are-pages : (all : List ℕ) → none ≡ [] → tables ≡ none ++ table_bytes process_tables → code ≡ tables ++ code_bytes (guest_code draws)
      → all ≡ code ++ replicate (0x6000 - length code) 0 → all ≡ guest_pages draws
  are-pages all empty first second third =
      let zeros : 0x6000 - length code ≡ 0x1000 - length (code_bytes (guest_code draws)) = omega (arith, content-length empty first second, length-guest_code draws) in
      third
      ∙ ap (λ (n : ℕ). code ++ replicate n 0) zeros
      ∙ ap (λ (l : List ℕ). l ++ replicate (0x1000 - length (code_bytes (guest_code draws))) 0) (content empty first second)
      ∙ append_assoc (table_bytes process_tables) (code_bytes (guest_code draws)) (replicate (0x1000 - length (code_bytes (guest_code draws))) 0)
