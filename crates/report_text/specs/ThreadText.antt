-- The registers of threads, as text.
use Rattle.std.specs.Prelude.{ℕ, ◌+◌, ◌/◌, ◌%◌, List, [], ◌∷◌, ◌++◌, codes}
use Rattle.std.specs.Fmt.{decimal}
use Rattle.line_text.specs.Text.{hex, end_of_line, text_of}
use Rattle.ppc_ops.specs.Results.{xer_number}
use Rattle.thread_regs.specs.declared.registers.Thread.{Thread}
use Rattle.thread_regs.specs.Registers.{gpr}

abbrev pub thread_line : ℕ → List ℕ
thread_line number = codes "thread " ++ decimal number ++ end_of_line

abbrev pub nia_line : Thread → List ℕ
nia_line t = codes "nia " ++ hex 16 t.nia ++ codes " msr " ++ hex 16 t.msr.0 ++ end_of_line

abbrev pub cr_line : Thread → List ℕ
cr_line t = codes "cr " ++ hex 8 t.cr ++ codes " xer " ++ hex 16 (xer_number t.xer) ++ end_of_line

abbrev pub lr_line : Thread → List ℕ
lr_line t = codes "lr " ++ hex 16 t.lr ++ codes " ctr " ++ hex 16 t.ctr ++ codes " tar " ++ hex 16 t.tar ++ end_of_line

-- a number below 100 with two decimal digits
abbrev pub two_digits : ℕ → List ℕ
two_digits n = (48 + n / 10) ∷ (48 + n % 10) ∷ []

-- the four general purpose registers from this one on
abbrev pub gpr_line : Thread → ℕ → List ℕ
gpr_line t first =
    codes "r" ++ two_digits first
    ++ codes " " ++ hex 16 (gpr t first) ++ codes " " ++ hex 16 (gpr t (first + 1))
    ++ codes " " ++ hex 16 (gpr t (first + 2)) ++ codes " " ++ hex 16 (gpr t (first + 3)) ++ end_of_line

abbrev pub srr_line : Thread → List ℕ
srr_line t =
    codes "srr " ++ hex 16 t.srr0 ++ codes " " ++ hex 16 t.srr1
    ++ codes " hsrr " ++ hex 16 t.hsrr0 ++ codes " " ++ hex 16 t.hsrr1 ++ end_of_line

abbrev pub dar_line : Thread → List ℕ
dar_line t = codes "dar " ++ hex 16 t.dar ++ codes " dsisr " ++ hex 8 t.dsisr ++ end_of_line

abbrev pub hdar_line : Thread → List ℕ
hdar_line t = codes "hdar " ++ hex 16 t.hdar ++ codes " hdsisr " ++ hex 8 t.hdsisr ++ codes " asdr " ++ hex 16 t.asdr ++ end_of_line

-- the number of the logical partition has 12 bits, and that of the process 20
abbrev pub heir_line : Thread → List ℕ
heir_line t = codes "heir " ++ hex 8 t.heir ++ codes " lpidr " ++ hex 3 t.lpidr ++ codes " pidr " ++ hex 5 t.pidr ++ end_of_line

abbrev pub dec_line : Thread → List ℕ
dec_line t = codes "dec " ++ hex 8 t.dec ++ codes " hdec " ++ hex 8 t.hdec ++ end_of_line

abbrev pub lpcr_line : Thread → List ℕ
lpcr_line t = codes "lpcr " ++ hex 16 t.lpcr ++ codes " ptcr " ++ hex 16 t.ptcr ++ end_of_line

abbrev pub amr_line : Thread → List ℕ
amr_line t = codes "amr " ++ hex 16 t.amr ++ codes " iamr " ++ hex 16 t.iamr ++ end_of_line

abbrev pub sprg_line : Thread → List ℕ
sprg_line t =
    codes "sprg " ++ hex 16 t.sprg0 ++ codes " " ++ hex 16 t.sprg1
    ++ codes " " ++ hex 16 t.sprg2 ++ codes " " ++ hex 16 t.sprg3
    ++ codes " hsprg " ++ hex 16 t.hsprg0 ++ codes " " ++ hex 16 t.hsprg1 ++ end_of_line

-- the twenty lines of the thread with this number
unfoldable pub thread_lines : ℕ → Thread → List (List ℕ)
thread_lines number t =
    thread_line number ∷ nia_line t ∷ cr_line t ∷ lr_line t
    ∷ gpr_line t 0 ∷ gpr_line t 4 ∷ gpr_line t 8 ∷ gpr_line t 12 ∷ gpr_line t 16 ∷ gpr_line t 20 ∷ gpr_line t 24 ∷ gpr_line t 28
    ∷ srr_line t ∷ dar_line t ∷ hdar_line t ∷ heir_line t ∷ dec_line t ∷ lpcr_line t ∷ amr_line t ∷ sprg_line t ∷ []

-- the threads, numbered from this number on
abbrev pub thread_texts : ℕ → List Thread → List (List ℕ)
thread_texts number [] = []
thread_texts number (t ∷ ts) = text_of (thread_lines number t) ∷ thread_texts (number + 1) ts
