use Rattle.std.proofs.Common.{ℕ, List, ap, inl, refl, ◌∙◌}
use denote.Param.Object.{read_made}
use Rattle.ppc_bus.specs.Devices.{Access, Reply}
use Rattle.radix.proofs.call.call_with_devices.OwnLists.{own-1, at-1-1, at-1-2, at-1-3}
use Rattle.radix.proofs.Viewed.{answers_after, standard_of}
use Rattle.radix.proofs.call.call_with_devices.Goals as goal

-- each device is boxed as what it was made as
pub returns : goal.returns
returns g c =
    let s = c.radix_call-status in
    let size_a = read_made own-1 (own-1.entry at-1-1) at-1-1 refl ℕ (λ j y. j.1.window_size y) _ _ _ c.into_dyn_box.ensures.1 ∙ ap (λ x. (own-1.entry at-1-1).1.window_size x) c.in_ok-new.ensures.ok ∙ c.new.ensures.window in
    let list_a = read_made own-1 (own-1.entry at-1-1) at-1-1 refl (List ℕ) (λ j y. j.1.list y) _ _ _ c.into_dyn_box.ensures.1 ∙ ap (λ x. (own-1.entry at-1-1).1.list x) c.in_ok-new.ensures.ok ∙ c.new.ensures.list in
    let answers_a = λ (l : List ℕ) (access : Access). read_made own-1 (own-1.entry at-1-1) at-1-1 refl Reply (λ j y. j.1.answers y l access) _ _ _ c.into_dyn_box.ensures.1 ∙ ap (λ x. (own-1.entry at-1-1).1.answers x l access) c.in_ok-new.ensures.ok ∙ c.new.ensures.answers l access in
    let size_b = read_made own-1 (own-1.entry at-1-2) at-1-2 refl ℕ (λ j y. j.1.window_size y) _ _ _ c.into_dyn_box-in_ok-new-2.ensures.1 ∙ ap (λ x. (own-1.entry at-1-2).1.window_size x) c.in_ok-new-2.ensures.ok ∙ c.new-3.ensures.window in
    let list_b = read_made own-1 (own-1.entry at-1-2) at-1-2 refl (List ℕ) (λ j y. j.1.list y) _ _ _ c.into_dyn_box-in_ok-new-2.ensures.1 ∙ ap (λ x. (own-1.entry at-1-2).1.list x) c.in_ok-new-2.ensures.ok ∙ c.new-3.ensures.list in
    let answers_b = λ (l : List ℕ) (access : Access). read_made own-1 (own-1.entry at-1-2) at-1-2 refl Reply (λ j y. j.1.answers y l access) _ _ _ c.into_dyn_box-in_ok-new-2.ensures.1 ∙ ap (λ x. (own-1.entry at-1-2).1.answers x l access) c.in_ok-new-2.ensures.ok ∙ c.new-3.ensures.answers l access in
    let size_c = read_made own-1 (own-1.entry at-1-3) at-1-3 refl ℕ (λ j y. j.1.window_size y) _ _ _ c.into_dyn_box-in_ok-new-3.ensures.1 ∙ ap (λ x. (own-1.entry at-1-3).1.window_size x) c.in_ok-new-3.ensures.ok ∙ c.new-6.ensures.window in
    let list_c = read_made own-1 (own-1.entry at-1-3) at-1-3 refl (List ℕ) (λ j y. j.1.list y) _ _ _ c.into_dyn_box-in_ok-new-3.ensures.1 ∙ ap (λ x. (own-1.entry at-1-3).1.list x) c.in_ok-new-3.ensures.ok ∙ c.new-6.ensures.list ∙ c.new-5.ensures.items in
    let answers_c = λ (l : List ℕ) (access : Access). read_made own-1 (own-1.entry at-1-3) at-1-3 refl Reply (λ j y. j.1.answers y l access) _ _ _ c.into_dyn_box-in_ok-new-3.ensures.1 ∙ ap (λ x. (own-1.entry at-1-3).1.answers x l access) c.in_ok-new-3.ensures.ok ∙ c.new-6.ensures.answers l access in
    answers_after c.args.words.now s.result _ s.new.files.faults s.new.files.last _ _ _ _ (ap (λ f. f.faults) c.new-files.ensures)
    (inl (standard_of _ c.into_dyn_box.result c.into_dyn_box-in_ok-new-2.result c.into_dyn_box-in_ok-new-3.result c.in_ok-bench.ensures.devices
    size_a list_a answers_a size_b list_b answers_b size_c list_c answers_c)) s.ensures.answer
