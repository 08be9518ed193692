-- Headers of client ports are made, unmade and handed in, in a world whose handles moved.
use Rattle.std.proofs.Common.{◌≡◌, ℕ, ◌+◌, Bool, true, false, not, ◌&&◌, ◌||◌, nat_eq, length, List, [], ◌∷◌, Option, Some, None, option_map, refl, sym, ◌∙◌, ap, subst}
use Rattle.std.specs.Prelude.{MatchOption, Result}
use Rattle.omx_types.specs.declared.handle.Handle.{Handle}
use Rattle.omx_types.specs.declared.error.OmxError.{OmxError}
use Rattle.omx_types.specs.declared.error.OmxError.TheVariants as errors
use Rattle.omx_types.specs.declared.error.CallError.{CallError}
use Rattle.omx_types.specs.declared.error.CallError.TheVariants.{Omx}
use Rattle.il_machine.specs.declared.header.HeaderState.{HeaderState}
use Rattle.il_machine.specs.declared.header.Spot.TheVariants.{TodoBack}
use Rattle.il_machine.specs.declared.port.Port.{Port}
use Rattle.il_machine.specs.Answers.{Answers, plain}
use Rattle.il_machine.specs.Buffers.{AllocateBuffer, AtPort, AtState, EmptyThisBuffer, FillThisBuffer, FreeBuffer, Held, UseBuffer, allocate_refusal, client_header, empty_refusal, fill_refusal, free_buffer_refusal, has_no_block, has_no_number, is_bad_length, is_taking, is_unpopulating, is_whole_frames, load_in, unpopulated, use_refusal, with_header, with_todo, without_header}
use Rattle.il_machine.specs.Due.{ClosesTo}
use Rattle.il_machine.specs.Headers.{Seen, empty_load, is_for, loaded, seen, unloaded}
use Rattle.il_machine.specs.Lists.{first_of_these}
use Rattle.il_machine.specs.Look.{look}
use Rattle.il_machine.specs.Ports.{accepting, is_input_port, is_joined}
use Rattle.il_machine.specs.States.{is_invalid}
use Rattle.il_machine.specs.World.{Component, World, port_of, with_component}
use Rattle.machine_laws.proofs.Finding.{either}
use Rattle.slot_laws.specs.Seating.{Seating, mapped, moved, moved_component, moved_handle, moved_held, moved_header, moved_port}
use Rattle.slot_laws.proofs.Lists.{holds_moved, map_append, none_moved}
use Rattle.slot_laws.proofs.Ports.{port_moved}
use Rattle.slot_laws.proofs.Headers.{put_moved, seen_moved, without_moved}
use Rattle.slot_laws.proofs.Closings.{component_put}
use Rattle.slot_laws.proofs.Naming.{answers_moved, by_map, closes_from, resolving_moved, stays}
use Rattle.slot_laws.proofs.Rooms.{room_moved}

module _ (f : Seating) where
  at_port : (c : Component) (port : ℕ) (Then Else : Port → Type 0) → ((p : Port) → Then p → Else (moved_port f p)) → AtPort (port_of c port) Then → AtPort (port_of (moved_component f c) port) Else
  at_port c port Then Else goes h = subst (λ (o : Option Port). MatchOption o ⊥ Else) (sym (port_moved f c port)) (go (port_of c port) h)
    where
      go : (o : Option Port) → MatchOption o ⊥ Then → MatchOption (option_map (moved_port f) o) ⊥ Else
      go None h = h
      go (Some p) h = goes p h

  at_state : (number : ℕ) (w : World) (Then Else : HeaderState → Type 0) → ((s : HeaderState) → Then s → Else s) → AtState number (look w) Then → AtState number (look (moved f w)) Else
  at_state number w Then Else goes h = subst (λ (l : Seen). MatchOption (l.header number) ⊥ Else) (sym (seen_moved f w.headers)) (go ((seen w.headers).header number) h)
    where
      go : (o : Option HeaderState) → MatchOption o ⊥ Then → MatchOption o ⊥ Else
      go None h = h
      go (Some s) h = goes s h

  -- ---- a header is made

  allocate_refused : (w : World) (c : Component) (port : ℕ) → allocate_refusal (look (moved f w)) (moved_component f c) (port_of (moved_component f c) port) ≡ allocate_refusal (look w) c (port_of c port)
  allocate_refused w c port =
      let o = port_of c port in
      let a = none_moved (moved_port f) o in
      let b = holds_moved (moved_port f) is_joined is_joined o (λ p. refl) in
      let d = holds_moved (moved_port f) (accepting (seen w.headers) (moved_component f c)) (accepting (seen w.headers) c) o (λ p. refl) in
      (λ j. allocate_refusal (record (look (moved f w)) { headers = seen_moved f w.headers j }) (moved_component f c) (port_moved f c port j))
      ∙ (λ j. first_of_these
      ((is_invalid c.state, errors.InvalidState)
      ∷ (a j, errors.BadPortIndex)
      ∷ (b j, errors.BadParameter)
      ∷ (not (d j), errors.IncorrectStateOperation)
      ∷ (has_no_block (seen w.headers) || has_no_number (look w), errors.InsufficientResources)
      ∷ []))

  use_refused : (w : World) (c : Component) (port bytes : ℕ) → use_refusal (look (moved f w)) (moved_component f c) (port_of (moved_component f c) port) bytes ≡ use_refusal (look w) c (port_of c port) bytes
  use_refused w c port bytes =
      let o = port_of c port in
      let a = none_moved (moved_port f) o in
      let b = holds_moved (moved_port f) (λ p. is_joined p || is_bad_length bytes p) (λ p. is_joined p || is_bad_length bytes p) o (λ p. refl) in
      let d = holds_moved (moved_port f) (accepting (seen w.headers) (moved_component f c)) (accepting (seen w.headers) c) o (λ p. refl) in
      (λ j. use_refusal (record (look (moved f w)) { headers = seen_moved f w.headers j }) (moved_component f c) (port_moved f c port j) bytes)
      ∙ (λ j. first_of_these
      ((is_invalid c.state, errors.InvalidState)
      ∷ (a j, errors.BadPortIndex)
      ∷ (b j, errors.BadParameter)
      ∷ (not (d j), errors.IncorrectStateOperation)
      ∷ (has_no_number (look w), errors.InsufficientResources)
      ∷ []))

  made_moved : (s : HeaderState) (memory : Option (List ℕ)) (w : World) → with_header s memory (moved f w) ≡ moved f (with_header s memory w)
  made_moved s memory w =
      let a = map_append (moved_header f) w.headers (record { state = s; load = empty_load memory } ∷ []) in
      λ j. record (moved f w) { headers = a j; made = w.made + 1 }

  pub allocate_goes : (w : World) (h : Handle) (port : ℕ) (r : Result Held CallError) (v : World)
      → AllocateBuffer w h port r v → AllocateBuffer (moved f w) (moved_handle f h) port (mapped (moved_held f) r) (moved f v)
  allocate_goes w h port r v R =
      let t : Result Held CallError = mapped (moved_held f) r in
      resolving_moved f Omx (moved_held f) w v r t (by_map (moved_held f) r) h _ _
      (λ i c A. answers_moved f Omx (moved_held f) w v r t (by_map (moved_held f) r) _ _ _ _ (allocate_refused w c port)
      (λ header B. at_port c port _ _ (λ p k. (
        ap (moved_held f) k.0,
        closes_from f (with_header (client_header w.made p false) None (moved f w)) (with_header (client_header w.made p false) None w) v (made_moved (client_header w.made p false) None w) k.1,
      )) B) A) R

  pub use_goes : (w : World) (h : Handle) (port : ℕ) (bytes : List ℕ) (r : Result Held OmxError) (v : World)
      → UseBuffer w h port bytes r v → UseBuffer (moved f w) (moved_handle f h) port bytes (mapped (moved_held f) r) (moved f v)
  use_goes w h port bytes r v R =
      let t : Result Held OmxError = mapped (moved_held f) r in
      resolving_moved f plain (moved_held f) w v r t (by_map (moved_held f) r) h _ _
      (λ i c A. answers_moved f plain (moved_held f) w v r t (by_map (moved_held f) r) _ _ _ _ (use_refused w c port (length bytes))
      (λ header B. at_port c port _ _ (λ p k. (
        ap (moved_held f) k.0,
        closes_from f (with_header (client_header w.made p true) (Some bytes) (moved f w)) (with_header (client_header w.made p true) (Some bytes) w) v (made_moved (client_header w.made p true) (Some bytes) w) k.1,
      )) B) A) R

  -- ---- a header is unmade

  free_refused : (c : Component) (port : ℕ) (s : HeaderState) → free_buffer_refusal (moved_component f c) (port_of (moved_component f c) port) s ≡ free_buffer_refusal c (port_of c port) s
  free_refused c port s =
      let o = port_of c port in
      let a = none_moved (moved_port f) o in
      let b = holds_moved (moved_port f) (λ p. is_for p.key s) (λ p. is_for p.key s) o (λ p. refl) in
      let d = holds_moved (moved_port f) (is_unpopulating (moved_component f c)) (is_unpopulating c) o (λ p. refl) in
      let e = room_moved f c in
      (λ j. free_buffer_refusal (moved_component f c) (port_moved f c port j) s)
      ∙ (λ j. first_of_these
      ((a j, errors.BadPortIndex)
      ∷ (not (b j), errors.BadParameter)
      ∷ (d j && nat_eq (e j) 0, errors.NotReady)
      ∷ []))

  unpopulated_moved : (p : Port) (c : Component) → unpopulated (moved_port f p) (moved_component f c) ≡ moved_component f (unpopulated p c)
  unpopulated_moved p c = either (is_unpopulating c p) (λ t. rw t refl) (λ e. rw e refl)

  freed_moved : (number i : ℕ) (p : Port) (c : Component) (w : World)
      → without_header number (with_component i (unpopulated (moved_port f p) (moved_component f c)) (moved f w)) ≡ moved f (without_header number (with_component i (unpopulated p c) w))
  freed_moved number i p c w =
      let a = component_put f i (unpopulated (moved_port f p) (moved_component f c)) (unpopulated p c) w (unpopulated_moved p c) in
      let b = without_moved f number w.headers in
      λ j. record (a j) { headers = b j }

  pub free_goes : (w : World) (h : Handle) (port number : ℕ) (r : Result Bool OmxError) (v : World)
      → FreeBuffer w h port number r v → FreeBuffer (moved f w) (moved_handle f h) port number r (moved f v)
  free_goes w h port number r v R = resolving_moved f plain (λ x. x) w v r r (stays r) h _ _
      (λ i c A. at_state number w
      (λ s. Answers (free_buffer_refusal c (port_of c port) s) r w v (λ is_clients. AtPort (port_of c port) (λ p.
      (is_clients ≡ s.client_memory) × ClosesTo (without_header number (with_component i (unpopulated p c) w)) v)))
      (λ s. Answers (free_buffer_refusal (moved_component f c) (port_of (moved_component f c) port) s) r (moved f w) (moved f v) (λ is_clients. AtPort (port_of (moved_component f c) port) (λ p.
      (is_clients ≡ s.client_memory) × ClosesTo (without_header number (with_component i (unpopulated p (moved_component f c)) (moved f w))) (moved f v))))
      (λ s B. answers_moved f plain (λ x. x) w v r r (stays r) _ _ _ _ (free_refused c port s)
      (λ x D. at_port c port _ _ (λ p k. (k.0, closes_from f _ (without_header number (with_component i (unpopulated p c) w)) v (freed_moved number i p c w) k.1)) D) B) A) R

  -- ---- a header is handed in

  empty_refused : (c : Component) (port : ℕ) (s : HeaderState) (content : List ℕ) → empty_refusal (moved_component f c) (port_of (moved_component f c) port) s content ≡ empty_refusal c (port_of c port) s content
  empty_refused c port s content =
      let o = port_of c port in
      let a = holds_moved (moved_port f) is_input_port is_input_port o (λ p. refl) in
      let b = holds_moved (moved_port f) (λ p. is_for p.key s && is_whole_frames p.setting.definition.format content) (λ p. is_for p.key s && is_whole_frames p.setting.definition.format content) o (λ p. refl) in
      let d = holds_moved (moved_port f) (is_taking (moved_component f c)) (is_taking c) o (λ p. refl) in
      (λ j. empty_refusal (moved_component f c) (port_moved f c port j) s content)
      ∙ (λ j. first_of_these
      ((is_invalid c.state, errors.InvalidState)
      ∷ (not (a j), errors.BadPortIndex)
      ∷ (not (b j), errors.BadParameter)
      ∷ (not (d j), errors.IncorrectStateOperation)
      ∷ []))

  fill_refused : (c : Component) (port : ℕ) (s : HeaderState) → fill_refusal (moved_component f c) (port_of (moved_component f c) port) s ≡ fill_refusal c (port_of c port) s
  fill_refused c port s =
      let o = port_of c port in
      let a = holds_moved (moved_port f) (λ p. not (is_input_port p)) (λ p. not (is_input_port p)) o (λ p. refl) in
      let b = holds_moved (moved_port f) (λ p. is_for p.key s) (λ p. is_for p.key s) o (λ p. refl) in
      let d = holds_moved (moved_port f) (is_taking (moved_component f c)) (is_taking c) o (λ p. refl) in
      (λ j. fill_refusal (moved_component f c) (port_moved f c port j) s)
      ∙ (λ j. first_of_these
      ((is_invalid c.state, errors.InvalidState)
      ∷ (not (a j), errors.BadPortIndex)
      ∷ (not (b j), errors.BadParameter)
      ∷ (not (d j), errors.IncorrectStateOperation)
      ∷ []))

  pub empty_goes : (w : World) (h : Handle) (port : ℕ) (header : Held) (r : Result (Unit {0}) OmxError) (v : World)
      → EmptyThisBuffer w h port header r v → EmptyThisBuffer (moved f w) (moved_handle f h) port (moved_held f header) r (moved f v)
  empty_goes w h port header r v R = resolving_moved f plain (λ x. x) w v r r (stays r) h _ _
      (λ i c A. at_state header.number w
      (λ s. Answers (empty_refusal c (port_of c port) s header.content) r w v (λ _. AtPort (port_of c port) (λ p. ClosesTo (with_todo p.key header.number (loaded (load_in header)) w) v)))
      (λ s. Answers (empty_refusal (moved_component f c) (port_of (moved_component f c) port) s header.content) r (moved f w) (moved f v) (λ _. AtPort (port_of (moved_component f c) port) (λ p.
      ClosesTo (with_todo p.key header.number (loaded (load_in (moved_held f header))) (moved f w)) (moved f v))))
      (λ s B. answers_moved f plain (λ x. x) w v r r (stays r) _ _ _ _ (empty_refused c port s header.content)
      (λ x D. at_port c port _ _ (λ p k. closes_from f _ (with_todo p.key header.number (loaded (load_in header)) w) v (todo p) k) D) B) A) R
    where
      todo : (p : Port) → with_todo p.key header.number (loaded (load_in (moved_held f header))) (moved f w) ≡ moved f (with_todo p.key header.number (loaded (load_in header)) w)
      todo p = let a = put_moved f p.key TodoBack header.number (loaded (load_in (moved_held f header))) (loaded (load_in header)) w.headers (λ r. refl) in λ j. record (moved f w) { headers = a j }

  pub fill_goes : (w : World) (h : Handle) (port : ℕ) (header : Held) (r : Result (Unit {0}) OmxError) (v : World)
      → FillThisBuffer w h port header r v → FillThisBuffer (moved f w) (moved_handle f h) port (moved_held f header) r (moved f v)
  fill_goes w h port header r v R = resolving_moved f plain (λ x. x) w v r r (stays r) h _ _
      (λ i c A. at_state header.number w
      (λ s. Answers (fill_refusal c (port_of c port) s) r w v (λ _. AtPort (port_of c port) (λ p. ClosesTo (with_todo p.key header.number (loaded (unloaded (load_in header))) w) v)))
      (λ s. Answers (fill_refusal (moved_component f c) (port_of (moved_component f c) port) s) r (moved f w) (moved f v) (λ _. AtPort (port_of (moved_component f c) port) (λ p.
      ClosesTo (with_todo p.key header.number (loaded (unloaded (load_in (moved_held f header)))) (moved f w)) (moved f v))))
      (λ s B. answers_moved f plain (λ x. x) w v r r (stays r) _ _ _ _ (fill_refused c port s)
      (λ x D. at_port c port _ _ (λ p k. closes_from f _ (with_todo p.key header.number (loaded (unloaded (load_in header))) w) v (todo p) k) D) B) A) R
    where
      todo : (p : Port) → with_todo p.key header.number (loaded (unloaded (load_in (moved_held f header)))) (moved f w) ≡ moved f (with_todo p.key header.number (loaded (unloaded (load_in header))) w)
      todo p =
          let a = put_moved f p.key TodoBack header.number (loaded (unloaded (load_in (moved_held f header)))) (loaded (unloaded (load_in header))) w.headers (λ r. refl) in
          λ j. record (moved f w) { headers = a j }
