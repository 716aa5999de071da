-- The bytes of code.
use Rattle.std.proofs.Common.{◌≡◌, ℕ, ◌+◌, ◌*◌, ◌<◌, ◌≤◌, List, [], ◌∷◌, ◌++◌, length, take, get_or, refl, ap, sym, ◌∙◌, arith, append_assoc, length-append}
use Rattle.std.specs.List.{flat_map}
use Rattle.std.proofs.lemmas.List.{append-nil, take_all, take_more}
use Rattle.std.proofs.lemmas.List.Concat.{flat_map-append}
use Rattle.ppc_ops.specs.declared.insn.Insn.{Insn}
use Rattle.gen_image.specs.Code.{insn_bytes, code_bytes, visit, call_and_return, guest_code}

code_bytes-append : (a b : List Insn) → code_bytes (a ++ b) ≡ code_bytes a ++ code_bytes b
unfolding code_bytes
code_bytes-append a b = flat_map-append insn_bytes a b

-- No code is put behind bytes.
pub nothing-pushed : (before : List ℕ) → before ≡ before ++ code_bytes []
unfolding code_bytes
nothing-pushed before = sym (append-nil before)

code_bytes-one : (i : Insn) → code_bytes (i ∷ []) ≡ insn_bytes i
unfolding code_bytes
code_bytes-one i = append-nil (insn_bytes i)

pub length-code_bytes : (code : List Insn) → length (code_bytes code) ≡ 4 * length code
unfolding code_bytes
length-code_bytes [] = refl
length-code_bytes (i ∷ is) = omega (arith, length-code_bytes is)

code_bytes-more : (code : List Insn) (k : ℕ) (d : Insn) → k < length code → code_bytes (take (k + 1) code) ≡ code_bytes (take k code) ++ insn_bytes (get_or code k d)
code_bytes-more code k d lt =
    ap code_bytes (take_more code k d lt) ∙ code_bytes-append (take k code) (get_or code k d ∷ [])
    ∙ ap (λ (l : List ℕ). code_bytes (take k code) ++ l) (code_bytes-one (get_or code k d))

-- One instruction more is put behind those before it.
pub code-pushed : (code : List Insn) (k : ℕ) (d : Insn) (before middle after : List ℕ) → k < length code → middle ≡ before ++ code_bytes (take k code)
    → after ≡ middle ++ insn_bytes (get_or code k d) → after ≡ before ++ code_bytes (take (k + 1) code)
code-pushed code k d before middle after lt first second =
    second ∙ ap (λ (l : List ℕ). l ++ insn_bytes (get_or code k d)) first ∙ append_assoc before (code_bytes (take k code)) (insn_bytes (get_or code k d))
    ∙ ap (λ (l : List ℕ). before ++ l) (sym (code_bytes-more code k d lt))

-- the visits of the first draws
abbrev pub visits_before : ℕ → List ℕ → List ℕ
visits_before k draws = code_bytes (flat_map visit (take k draws))

visit_last : (draws : List ℕ) (draw : ℕ) → flat_map visit (draws ++ draw ∷ []) ≡ flat_map visit draws ++ visit draw
visit_last draws draw = flat_map-append visit draws (draw ∷ []) ∙ ap (λ (l : List Insn). flat_map visit draws ++ l) (append-nil (visit draw))

visits_before-more : (draws : List ℕ) (k : ℕ) → k < length draws → visits_before (k + 1) draws ≡ visits_before k draws ++ code_bytes (visit (get_or draws k 0))
visits_before-more draws k lt =
    ap (λ (l : List ℕ). code_bytes (flat_map visit l)) (take_more draws k 0 lt)
    ∙ ap code_bytes (visit_last (take k draws) (get_or draws k 0))
    ∙ code_bytes-append (flat_map visit (take k draws)) (visit (get_or draws k 0))

-- One visit more is put behind those before it.
pub visit-pushed : (draws : List ℕ) (k : ℕ) (code : List Insn) (before middle after : List ℕ) → k < length draws → code ≡ visit (get_or draws k 0)
    → middle ≡ before ++ visits_before k draws → after ≡ middle ++ code_bytes code → after ≡ before ++ visits_before (k + 1) draws
visit-pushed draws k code before middle after lt is first second =
    second ∙ ap (λ (l : List ℕ). l ++ code_bytes code) first ∙ append_assoc before (visits_before k draws) (code_bytes code)
    ∙ ap (λ (i : List Insn). before ++ (visits_before k draws ++ code_bytes i)) is ∙ ap (λ (l : List ℕ). before ++ l) (sym (visits_before-more draws k lt))

-- The end of a guest's code is put behind all visits.
pub end-pushed : (draws : List ℕ) (k : ℕ) (code : List Insn) (before middle after : List ℕ) → length draws ≤ k → code ≡ call_and_return (length draws)
    → middle ≡ before ++ visits_before k draws → after ≡ middle ++ code_bytes code → after ≡ before ++ code_bytes (guest_code draws)
end-pushed draws k code before middle after all is first second =
    second ∙ ap (λ (l : List ℕ). l ++ code_bytes code) first ∙ append_assoc before (visits_before k draws) (code_bytes code)
    ∙ ap (λ (l : List ℕ). before ++ (code_bytes (flat_map visit l) ++ code_bytes code)) (take_all k draws all)
    ∙ ap (λ (i : List Insn). before ++ (code_bytes (flat_map visit draws) ++ code_bytes i)) is
    ∙ ap (λ (l : List ℕ). before ++ l) (sym (code_bytes-append (flat_map visit draws) (call_and_return (length draws))))

length-visits : (draws : List ℕ) → length (flat_map visit draws) ≡ 5 * length draws
length-visits [] = refl
length-visits (d ∷ ds) = omega (arith, length-visits ds)

pub length-guest_code : (draws : List ℕ) → length (code_bytes (guest_code draws)) ≡ 20 * length draws + 8
length-guest_code draws =
    omega (arith, length-code_bytes (guest_code draws), length-append (flat_map visit draws) (call_and_return (length draws)), length-visits draws)
