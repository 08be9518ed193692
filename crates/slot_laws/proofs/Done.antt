-- What a work comes back as is one thing, where the part's file tells what it gives.
use Rattle.std.proofs.Common.{◌≡◌, ℕ, ◌*◌, Bool, true, false, not, ◌&&◌, cond, List, [], ◌∷◌, filter, find, Option, Some, None, option_map, refl, sym, ◌∙◌, ap, subst}
use Rattle.std.specs.Prelude.{map, MatchOption, MatchBool, IsSome}
use Rattle.omx_types.specs.Formats.{frame_bytes_of}
use Rattle.omx_types.specs.declared.fault.PartFault.{PartFault}
use Rattle.part_api.specs.Streams.{Incoming}
use Rattle.part_api.specs.Terms.{Terms}
use Rattle.il_machine.specs.Acts as acts
use Rattle.il_machine.specs.Claims.{CarriedHeader, carried, terms_in}
use Rattle.il_machine.specs.Kinds.{is_sink, is_source}
use Rattle.il_machine.specs.Lists.{least}
use Rattle.il_machine.specs.Parts.{bytes_given, file_format, frames_left}
use Rattle.il_machine.specs.Run.{Meets}
use Rattle.il_machine.specs.Stepping.{Gives, IsAnnounced, IsDoneBy, IsDoneOf, IsStep, IsStepBy, IsTold, IsWholeStep, WorkDone, format_at, frames_at, front_of, incoming, input_piece, inputs_ended, is_for_port, is_in, is_last, is_over, step_frames, stepped, text_by, text_of}
use Rattle.il_machine.specs.World.{Component, Stream, Work, World, component_numbered, stream_of}
use Rattle.machine_laws.proofs.Finding.{either}
use Rattle.slot_laws.specs.Seating.{Seating, moved, moved_carried, moved_component, moved_done}
use Rattle.slot_laws.proofs.Lists.{any_moved, filter_moved, find_moved, map_same}
use Rattle.slot_laws.proofs.Claiming.{carried_moved}
use Rattle.slot_laws.proofs.Finishing.{inputs_moved}
use Rattle.slot_laws.proofs.Naming.{numbered_moved}

-- a file that tells what it gives, gives one piece
gives_once : (t : Terms) (s : Stream) (frames : ℕ) (p q : List ℕ) → IsSome s.known → Gives t s frames p → Gives t s frames q → q ≡ p
gives_once t s frames p q known a b = by_source (is_source t.kind) a b
  where
    told_once : (k : Option (List ℕ)) (place count : ℕ) → IsSome k → IsTold k place count p → IsTold k place count q → q ≡ p
    told_once None place count known a b = absurd cc
    told_once (Some bytes) place count known a b = b.1 ∙ sym a.1

    by_source : (source : Bool) → MatchBool source (IsTold s.known (bytes_given t s) (frames * frame_bytes_of (file_format t.file)) p) (p ≡ [])
        → MatchBool source (IsTold s.known (bytes_given t s) (frames * frame_bytes_of (file_format t.file)) q) (q ≡ []) → q ≡ p
    by_source true a b = told_once s.known (bytes_given t s) (frames * frame_bytes_of (file_format t.file)) known a b
    by_source false a b = b ∙ sym a

module _ (f : Seating) (t : Terms) (s : Stream) (hs : List CarriedHeader) where
  frames_moved : step_frames t s (map (moved_carried f) hs) ≡ step_frames t s hs
  frames_moved =
      let a = ap (map (frames_at t)) (filter_moved (moved_carried f) (λ x. not (is_last t 0 x)) (λ x. not (is_last t 0 x)) hs (λ x. refl))
      ∙ map_same (moved_carried f) (frames_at t) (frames_at t) (filter (λ x. not (is_last t 0 x)) hs) (λ x. refl) in
      let b = any_moved (moved_carried f) (λ x. is_in t x && not (is_last t 0 x)) (λ x. is_in t x && not (is_last t 0 x)) hs (λ x. refl) in
      λ j. cond (is_source t.kind) (least (frames_left t s ∷ a j)) (cond (b j) (least (a j)) 0)

  front_moved : (port frames : ℕ) (o : Option CarriedHeader) → front_of t port frames (option_map (moved_carried f) o) ≡ front_of t port frames o
  front_moved port frames None = refl
  front_moved port frames (Some x) = refl

  piece_moved : (frames port : ℕ) → input_piece t frames (map (moved_carried f) hs) port ≡ input_piece t frames hs port
  piece_moved frames port =
      ap (front_of t port frames) (find_moved (moved_carried f) (is_for_port port) (is_for_port port) hs (λ x. refl)) ∙ front_moved port frames (find (is_for_port port) hs)

  incoming_moved : (frames : ℕ) (piece : List ℕ) → incoming t frames (map (moved_carried f) hs) piece ≡ incoming t frames hs piece
  incoming_moved frames piece = λ j. record { input = λ port. piece_moved frames port j; file = piece }

  stepped_moved : (frames : ℕ) (came : Incoming) (over : Bool) (x : CarriedHeader) → stepped t frames came over (moved_carried f x) ≡ moved_carried f (stepped t frames came over x)
  stepped_moved frames came over x = either (is_in t x) (λ e. rw e refl) (λ e. rw e refl)

  all_stepped : (frames : ℕ) (came : Incoming) (over : Bool) (xs : List CarriedHeader) → map (stepped t frames came over) (map (moved_carried f) xs) ≡ map (moved_carried f) (map (stepped t frames came over) xs)
  all_stepped frames came over [] = refl
  all_stepped frames came over (x ∷ xs) =
      let a = stepped_moved frames came over x in
      let b = all_stepped frames came over xs in
      λ j. a j ∷ b j

  text_moved : (frames : ℕ) → text_of t s frames (map (moved_carried f) hs) ≡ text_of t s frames hs
  text_moved frames = let a = piece_moved frames 0 in λ j. cond (is_sink t.kind) (text_by t.file (format_at t 0) s frames (a j)) []

  whole_alike : (done other : WorkDone) → IsSome s.known → other.component ≡ done.component → other.fault ≡ done.fault
      → IsWholeStep t s hs done → IsWholeStep t s (map (moved_carried f) hs) other → other ≡ moved_done f done
  whole_alike done other known component fault a b =
      let n = step_frames t s hs in
      let F = frames_moved in
      let P : b.0 ≡ a.0 = gives_once t s n a.0 b.0 known a.1 (subst (λ (k : ℕ). Gives t s k b.0) F b.1) in
      let frames : other.frames ≡ done.frames = b.2 ∙ (F ∙ sym a.2) in
      let c = incoming_moved n a.0 in
      let o = ap (is_over t s n) (inputs_moved f t n hs) in
      let headers : other.headers ≡ map (moved_carried f) done.headers =
      b.3 ∙ ((λ j. map (stepped t (F j) (incoming t (F j) (map (moved_carried f) hs) (P j)) (is_over t s (F j) (inputs_ended t (F j) (map (moved_carried f) hs)))) (map (moved_carried f) hs))
      ∙ ((λ j. map (stepped t n (c j) (o j)) (map (moved_carried f) hs))
      ∙ (all_stepped n (incoming t n hs a.0) (is_over t s n (inputs_ended t n hs)) hs ∙ sym (ap (map (moved_carried f)) a.3)))) in
      let took : other.took ≡ done.took = b.4 ∙ ((λ j. text_of t s (F j) (map (moved_carried f) hs)) ∙ (text_moved n ∙ sym a.4)) in
      λ j. record { component = component j; frames = frames j; fault = fault j; headers = headers j; took = took j }

announced_alike : (f : Seating) (done other : WorkDone) → other.component ≡ done.component → IsAnnounced done → IsAnnounced other → other ≡ moved_done f done
announced_alike f done other component a b =
    let frames : other.frames ≡ done.frames = b.0 ∙ sym a.0 in
    let fault : other.fault ≡ done.fault = b.1 ∙ sym a.1 in
    let headers : other.headers ≡ map (moved_carried f) done.headers = b.2 ∙ sym (ap (map (moved_carried f)) a.2) in
    let took : other.took ≡ done.took = b.3 ∙ sym a.3 in
    λ j. record { component = component j; frames = frames j; fault = fault j; headers = headers j; took = took j }

module _ (f : Seating) (w : World) (done other : WorkDone) (component : other.component ≡ done.component) (whole : done.fault ≡ None) (also : other.fault ≡ None)
    (known : (s : Stream) → stream_of done.component w ≡ Some s → IsSome s.known) where
  step_alike : (c : Component) (work : Work) (o : Option Stream) → stream_of done.component w ≡ o
      → MatchOption o ⊥ (λ s. IsStep (terms_in c work) s (carried w.headers work.headers) done)
      → MatchOption o ⊥ (λ s. IsStep (terms_in c work) s (carried (moved f w).headers work.headers) other) → other ≡ moved_done f done
  step_alike c work None is a b = absurd a
  step_alike c work (Some s) is a b =
      let hs : List CarriedHeader = carried w.headers work.headers in
      whole_alike f (terms_in c work) s hs done other (known s is) component (also ∙ sym whole)
      (subst (λ (o : Option PartFault). IsStepBy o (terms_in c work) s hs done) whole a)
      (subst (λ (l : List CarriedHeader). IsWholeStep (terms_in c work) s l other) (carried_moved f w.headers work.headers)
      (subst (λ (o : Option PartFault). IsStepBy o (terms_in c work) s (carried (moved f w).headers work.headers) other) also b))

  by_alike : (announces : Bool) (c : Component) (work : Work) → IsDoneBy announces w c work done → IsDoneBy announces (moved f w) (moved_component f c) work other → other ≡ moved_done f done
  by_alike true c work a b = announced_alike f done other component a b
  by_alike false c work a b =
      step_alike c work (stream_of done.component w) refl a
      (subst (λ (n : ℕ). MatchOption (stream_of n w) ⊥ (λ s. IsStep (terms_in c work) s (carried (moved f w).headers work.headers) other)) component b)

  work_alike : (c : Component) (o : Option Work) → MatchOption o ⊥ (λ work. IsDoneOf w c work done) → MatchOption o ⊥ (λ work. IsDoneOf (moved f w) (moved_component f c) work other) → other ≡ moved_done f done
  work_alike c None a b = absurd a
  work_alike c (Some work) a b = by_alike work.announces c work a b

  there_alike : (o : Option Component) → MatchOption o ⊥ (λ c. MatchOption c.work ⊥ (λ work. IsDoneOf w c work done))
      → MatchOption (option_map (moved_component f) o) ⊥ (λ c. MatchOption c.work ⊥ (λ work. IsDoneOf (moved f w) c work other)) → other ≡ moved_done f done
  there_alike None a b = absurd a
  there_alike (Some c) a b = work_alike c c.work a b

  pub done_alike : Meets w (acts.Finish done) → Meets (moved f w) (acts.Finish other) → other ≡ moved_done f done
  done_alike a b = there_alike (component_numbered done.component w) a
      (subst (λ (o : Option Component). MatchOption o ⊥ (λ c. MatchOption c.work ⊥ (λ work. IsDoneOf (moved f w) c work other)))
      (ap (λ (n : ℕ). component_numbered n (moved f w)) component ∙ numbered_moved f done.component w) b)
