-- What an act does in a bare world it does in the world: the way back.
use Rattle.std.proofs.Common.{◌≡◌, ℕ, Bool, true, false, List, [], ◌∷◌, slice_get, Option, Some, None, option_map, refl, sym, ◌∙◌, subst}
use Rattle.std.proofs.lemmas.Option.{slice_get-map}
use Rattle.std.specs.Prelude.{MatchOption, Result, Ok, Err}
use Rattle.omx_types.specs.declared.handle.Handle.{Handle}
use Rattle.omx_types.specs.declared.handle.PortId.{PortId}
use Rattle.omx_types.specs.declared.command.Command.{Command}
use Rattle.omx_types.specs.declared.command.Event.{Event}
use Rattle.omx_types.specs.declared.command.Note.{Note}
use Rattle.omx_types.specs.declared.command.Note.TheVariants.{EmptyDone, FillDone, Told}
use Rattle.omx_types.specs.declared.error.CallError.{CallError}
use Rattle.omx_types.specs.declared.error.CallError.TheVariants.{Omx}
use Rattle.omx_types.specs.declared.error.OmxError.{OmxError}
use Rattle.omx_types.specs.declared.error.OmxError.TheVariants as errors
use Rattle.omx_types.specs.declared.param.Param.{Param}
use Rattle.omx_types.specs.declared.param.ParamKey.{ParamKey}
use Rattle.omx_types.specs.declared.param.Supplier.{Supplier}
use Rattle.il_machine.specs.declared.answer.Acted.TheVariants.{Did}
use Rattle.il_machine.specs.declared.answer.Why.{Why}
use Rattle.il_machine.specs.declared.port.Port.{Port}
use Rattle.il_machine.specs.Answers.{Acts, AnswersAs, Resolving, plain}
use Rattle.il_machine.specs.Claims.{Claim, Claimed, Claims, claim_idle, with_work, work_of}
use Rattle.il_machine.specs.Commands.{RunCommand, SendCommand, run_front, run_idle, send_refusal, sent}
use Rattle.il_machine.specs.Due.{ClosesTo}
use Rattle.il_machine.specs.Finishing.{Finish, finished}
use Rattle.il_machine.specs.Flow.{End, HandBack, HandOver, OnPort, Release, Supply, back_idle, front_unmade, handed_back, handed_over, in_port, other_end, over_idle, release_idle, supply_idle, with_supplied}
use Rattle.il_machine.specs.Headers.{find_header, seen}
use Rattle.il_machine.specs.Lists.{first_of_these}
use Rattle.il_machine.specs.Look.{look}
use Rattle.il_machine.specs.Notes.{EndNote, TakeFrom, TakeNote, back_in, with_given}
use Rattle.il_machine.specs.Parameters.{SetParameter, set_parameter_refusal, with_value}
use Rattle.il_machine.specs.Stepping.{WorkDone}
use Rattle.il_machine.specs.Tunnels.{BothPorts, DropTunnel, SetupTunnel, agreed_of, both_joined, both_parted, drop_refusal, setup_refusal}
use Rattle.il_machine.specs.World.{Component, World, place_numbered, place_of, port_of, with_component}
use Rattle.machine_laws.proofs.Closing.{closes_once}
use Rattle.machine_laws.proofs.Ending.{closes_somewhere}
use Rattle.bare_run_laws.specs.Bare.{IsApart, IsKnown, IsOwnCommand, IsUnmarked, Returns, bare, bare_component, bare_handle, bare_id}
use Rattle.bare_run_laws.proofs.Acts.{SameTests, acts_never, back_list, back_tests, handed_same, none_alike, over_list, over_put, over_tests, put_bare, refused_same, sent_same, supply_list, supply_tests, unmade_same, work_put}
use Rattle.bare_run_laws.proofs.Closings.{bare_closes}
use Rattle.bare_run_laws.proofs.Finishing.{finished_same}
use Rattle.bare_run_laws.proofs.More.{front_same, idle_same, joined_same, parted_same, setup_same, value_same}
use Rattle.bare_run_laws.proofs.Places.{bare_end, numbered_same, other_same, place_same}
use Rattle.bare_run_laws.proofs.Telling.{given_same, is_told, no_header}

kept : (P Q : World → Type 0) (u : World) → ((v : World) → P v → Q v) → Returns P u → Returns Q u
kept P Q u goes R = record { v = R.v; does = goes R.v R.does; is = R.is }

closes_back : (after then u : World) → then ≡ bare after → ClosesTo then u → Returns (ClosesTo after) u
closes_back after then u is C =
    let end = closes_somewhere after in
    let same : ClosesTo (bare after) u = subst (λ (x : World). ClosesTo x u) is C in
    record { v = end.0; does = end.1; is = closes_once (bare after) (bare end.0) u (bare_closes after end.0 end.1) same }

-- ---- a call that a handle names a component

module _ {T E : Type 0} (refuse : OmxError → E) (w u : World) (result : Result T E) where
  there_back : (i : ℕ) (o : Option Component) (Then : World → Component → Type 0) (Else : Component → Type 0) → ((c : Component) → o ≡ Some c → Else (bare_component c) → Returns (λ v. Then v c) u)
      → MatchOption (option_map bare_component o) ⊥ Else → Returns (λ v. MatchOption o ⊥ (Then v)) u
  there_back i None Then Else goes h = absurd h
  there_back i (Some c) Then Else goes h = goes c refl h

  at_back : (o : Option ℕ) (Then : World → ℕ → Component → Type 0) (Else : ℕ → Component → Type 0)
      → ((i : ℕ) (c : Component) → slice_get w.components i ≡ Some c → Else i (bare_component c) → Returns (λ v. Then v i c) u)
      → MatchOption o ((result ≡ Err (refuse errors.InvalidComponent)) × (u ≡ bare w)) (λ i. MatchOption (slice_get (bare w).components i) ⊥ (λ c. Else i c))
      → Returns (λ v. MatchOption o ((result ≡ Err (refuse errors.InvalidComponent)) × (v ≡ w)) (λ i. MatchOption (slice_get w.components i) ⊥ (λ c. Then v i c))) u
  at_back None Then Else goes h = record { v = w; does = (h.0, refl); is = sym h.1 }
  at_back (Some i) Then Else goes h =
      there_back i (slice_get w.components i) (λ v c. Then v i c) (Else i) (goes i)
      (subst (λ (o : Option Component). MatchOption o ⊥ (λ c. Else i c)) (slice_get-map bare_component w.components i) h)

  resolving_back : (h : Handle) (Then : World → ℕ → Component → Type 0) (Else : ℕ → Component → Type 0) → IsKnown h w
      → ((i : ℕ) (c : Component) → slice_get w.components i ≡ Some c → Else i (bare_component c) → Returns (λ v. Then v i c) u)
      → Resolving refuse (bare w) (bare_handle h) result u Else → Returns (λ v. Resolving refuse w h result v (Then v)) u
  resolving_back h Then Else known goes R =
      at_back (place_of h w.components) Then Else goes
      (subst (λ (o : Option ℕ). MatchOption o ((result ≡ Err (refuse errors.InvalidComponent)) × (u ≡ bare w)) (λ i. MatchOption (slice_get (bare w).components i) ⊥ (λ c. Else i c))) (place_same h w known) R)

  port_there_back : (o : Option Port) (Then : World → Port → Type 0) (Else : Port → Type 0) → ((p : Port) → Else p → Returns (λ v. Then v p) u)
      → MatchOption o ((result ≡ Err (refuse errors.BadPortIndex)) × (u ≡ bare w)) Else
      → Returns (λ v. MatchOption o ((result ≡ Err (refuse errors.BadPortIndex)) × (v ≡ w)) (Then v)) u
  port_there_back None Then Else goes h = record { v = w; does = (h.0, refl); is = sym h.1 }
  port_there_back (Some p) Then Else goes h = goes p h

  port_back : (h : Handle) (port : ℕ) (Then : World → ℕ → Component → Port → Type 0) (Else : ℕ → Component → Port → Type 0) → IsKnown h w
      → ((i : ℕ) (c : Component) (p : Port) → Else i (bare_component c) p → Returns (λ v. Then v i c p) u)
      → OnPort refuse (bare w) (bare_handle h) port result u Else → Returns (λ v. OnPort refuse w h port result v (Then v)) u
  port_back h port Then Else known goes R =
      resolving_back h (λ v i c. MatchOption (port_of c port) ((result ≡ Err (refuse errors.BadPortIndex)) × (v ≡ w)) (λ p. Then v i c p))
      (λ i c. MatchOption (port_of c port) ((result ≡ Err (refuse errors.BadPortIndex)) × (u ≡ bare w)) (λ p. Else i c p)) known
      (λ i c at h. port_there_back (port_of c port) (λ v p. Then v i c p) (Else i (bare_component c)) (goes i c) h) R

answers_back : {T : Type 0} (o : Option OmxError) (result : Result T OmxError) (w u : World) (Then : World → T → Type 0) (Else : T → Type 0) → ((x : T) → Else x → Returns (λ v. Then v x) u)
    → AnswersAs plain o result (bare w) u Else → Returns (λ v. AnswersAs plain o result w v (Then v)) u
answers_back (Some e) result w u Then Else goes (is, same) = record { v = w; does = (is, refl); is = sym same }
answers_back None (Ok x) w u Then Else goes h = goes x h
answers_back None (Err e) w u Then Else goes h = absurd h

-- ---- an act of a component

acts_back : (E : Type 0) (o other : Option Why) (w after then u : World) → (other ≡ None → o ≡ None) → then ≡ bare after → Acts {E = E} other (Ok Did) (bare w) then u
    → Returns (λ v. Acts {E = E} o (Ok Did) w after v) u
acts_back E o (Some why) w after then u none is (answer, same) = absurd cc
acts_back E o None w after then u none is (answer, closes) =
    let R = closes_back after then u is closes in
    record { v = R.v; does = subst (λ (p : Option Why). Acts {E = E} p (Ok Did) w after R.v) (sym (none refl)) (refl, R.does); is = R.is }

flipped : {E : Type 0} (xs ys : List (Bool × E)) → SameTests xs ys → SameTests ys xs
flipped [] [] same = same
flipped [] (y ∷ ys) same = absurd same
flipped (x ∷ xs) [] same = absurd same
flipped (x ∷ xs) (y ∷ ys) same = (sym same.0, flipped xs ys same.1)

pub send_back : (w : World) (h : Handle) (command : Command) (result : Result (Unit {0}) OmxError) (u : World) → IsKnown h w → IsOwnCommand command
    → SendCommand (bare w) (bare_handle h) command result u → Returns (λ v. SendCommand w h command result v) u
send_back w h command result u known own S = resolving_back plain w u result h
    (λ v i c. AnswersAs plain (send_refusal (look w) c command) result w v (λ _. ClosesTo (with_component i (sent command c) w) v))
    (λ i c. AnswersAs plain (send_refusal (look (bare w)) c command) result (bare w) u (λ _. ClosesTo (with_component i (sent command c) (bare w)) u))
    known
    (λ i c at A. answers_back (send_refusal (look w) c command) result w u _ _
    (λ x C. closes_back (with_component i (sent command c) w) _ u (put_bare i (sent command (bare_component c)) (sent command c) w (sent_same command c)) C)
    (subst (λ (o : Option OmxError). AnswersAs plain o result (bare w) u (λ _. ClosesTo (with_component i (sent command (bare_component c)) (bare w)) u)) (refused_same w c command own) A))
    S

pub set_back : (w : World) (h : Handle) (key : ParamKey) (value : Param) (result : Result (Unit {0}) OmxError) (u : World) → IsKnown h w
    → SetParameter (bare w) (bare_handle h) key value result u → Returns (λ v. SetParameter w h key value result v) u
set_back w h key value result u known S = resolving_back plain w u result h
    (λ v i c. AnswersAs plain (set_parameter_refusal (look w).headers c key value) result w v (λ _. ClosesTo (with_component i (with_value key value c) w) v))
    (λ i c. AnswersAs plain (set_parameter_refusal (look (bare w)).headers c key value) result (bare w) u (λ _. ClosesTo (with_component i (with_value key value c) (bare w)) u))
    known
    (λ i c at A. answers_back (set_parameter_refusal (look w).headers c key value) result w u _ _
    (λ x C. closes_back (with_component i (with_value key value c) w) _ u (put_bare i (with_value key value (bare_component c)) (with_value key value c) w (value_same key value c)) C) A)
    S

-- ---- tunnels

both_back : (p q : Option Port) (u : World) (Then : World → Port → Port → Type 0) (Else : Port → Port → Type 0) → ((a b : Port) → Else a b → Returns (λ v. Then v a b) u)
    → BothPorts p q Else → Returns (λ v. BothPorts p q (Then v)) u
both_back None q u Then Else goes h = absurd h
both_back (Some a) None u Then Else goes h = absurd h
both_back (Some a) (Some b) u Then Else goes h = goes a b h

pub drop_back : (w : World) (output input : PortId) (result : Result (Unit {0}) OmxError) (u : World) → IsKnown output.handle w → IsKnown input.handle w
    → DropTunnel (bare w) (bare_id output) (bare_id input) result u → Returns (λ v. DropTunnel w output input result v) u
drop_back w output input result u known other D = resolving_back plain w u result output.handle
    (λ v i c. Resolving plain w input.handle result v (λ j d. AnswersAs plain (drop_refusal (look w).headers (port_of c output.index) (port_of d input.index)) result w v
    (λ _. BothPorts (port_of c output.index) (port_of d input.index) (λ a b. ClosesTo (both_parted i c a j d b w) v))))
    (λ i c. Resolving plain (bare w) (bare_handle input.handle) result u (λ j d. AnswersAs plain (drop_refusal (look (bare w)).headers (port_of c output.index) (port_of d input.index)) result (bare w) u
    (λ _. BothPorts (port_of c output.index) (port_of d input.index) (λ a b. ClosesTo (both_parted i c a j d b (bare w)) u))))
    known
    (λ i c there R. resolving_back plain w u result input.handle
    (λ v j d. AnswersAs plain (drop_refusal (look w).headers (port_of c output.index) (port_of d input.index)) result w v
    (λ _. BothPorts (port_of c output.index) (port_of d input.index) (λ a b. ClosesTo (both_parted i c a j d b w) v)))
    (λ j d. AnswersAs plain (drop_refusal (look (bare w)).headers (port_of c output.index) (port_of d input.index)) result (bare w) u
    (λ _. BothPorts (port_of c output.index) (port_of d input.index) (λ a b. ClosesTo (both_parted i (bare_component c) a j d b (bare w)) u)))
    other
    (λ j d at A. answers_back (drop_refusal (look w).headers (port_of c output.index) (port_of d input.index)) result w u _ _
    (λ x B. both_back (port_of c output.index) (port_of d input.index) u
    (λ v a b. ClosesTo (both_parted i c a j d b w) v)
    (λ a b. ClosesTo (both_parted i (bare_component c) a j (bare_component d) b (bare w)) u)
    (λ a b C. closes_back (both_parted i c a j d b w) _ u (parted_same i c a j d b w) C) B) A)
    R)
    D

pub setup_back : (w : World) (output input : PortId) (result : Result Supplier OmxError) (u : World) → IsApart w → IsKnown output.handle w → IsKnown input.handle w
    → SetupTunnel (bare w) (bare_id output) (bare_id input) result u → Returns (λ v. SetupTunnel w output input result v) u
setup_back w output input result u apart known other S = resolving_back plain w u result output.handle
    (λ v i c. Resolving plain w input.handle result v (λ j d. AnswersAs plain (setup_refusal (look w).headers c d (port_of c output.index) (port_of d input.index)) result w v
    (λ supplier. BothPorts (port_of c output.index) (port_of d input.index) (λ a b. (supplier ≡ agreed_of a b) × ClosesTo (both_joined supplier i c a j d b w) v))))
    (λ i c. Resolving plain (bare w) (bare_handle input.handle) result u (λ j d. AnswersAs plain (setup_refusal (look (bare w)).headers c d (port_of c output.index) (port_of d input.index)) result (bare w) u
    (λ supplier. BothPorts (port_of c output.index) (port_of d input.index) (λ a b. (supplier ≡ agreed_of a b) × ClosesTo (both_joined supplier i c a j d b (bare w)) u))))
    known
    (λ i c there R. resolving_back plain w u result input.handle
    (λ v j d. AnswersAs plain (setup_refusal (look w).headers c d (port_of c output.index) (port_of d input.index)) result w v
    (λ supplier. BothPorts (port_of c output.index) (port_of d input.index) (λ a b. (supplier ≡ agreed_of a b) × ClosesTo (both_joined supplier i c a j d b w) v)))
    (λ j d. AnswersAs plain (setup_refusal (look (bare w)).headers (bare_component c) d (port_of c output.index) (port_of d input.index)) result (bare w) u
    (λ supplier. BothPorts (port_of c output.index) (port_of d input.index) (λ a b. (supplier ≡ agreed_of a b) × ClosesTo (both_joined supplier i (bare_component c) a j d b (bare w)) u)))
    other
    (λ j d at A. answers_back (setup_refusal (look w).headers c d (port_of c output.index) (port_of d input.index)) result w u _ _
    (λ supplier B. both_back (port_of c output.index) (port_of d input.index) u
    (λ v a b. (supplier ≡ agreed_of a b) × ClosesTo (both_joined supplier i c a j d b w) v)
    (λ a b. (supplier ≡ agreed_of a b) × ClosesTo (both_joined supplier i (bare_component c) a j (bare_component d) b (bare w)) u)
    (λ a b C. kept (ClosesTo (both_joined supplier i c a j d b w)) (λ v. (supplier ≡ agreed_of a b) × ClosesTo (both_joined supplier i c a j d b w) v) u (λ v D. (C.0, D))
    (closes_back (both_joined supplier i c a j d b w) _ u (joined_same supplier i c a j d b w) C.1)) B)
    (subst (λ (o : Option OmxError). AnswersAs plain o result (bare w) u
    (λ supplier. BothPorts (port_of c output.index) (port_of d input.index) (λ a b. (supplier ≡ agreed_of a b) × ClosesTo (both_joined supplier i (bare_component c) a j (bare_component d) b (bare w)) u)))
    (setup_same w c d (port_of c output.index) (port_of d input.index) (apart j d at) i there) A))
    R)
    S

-- ---- what a component does

pub run_back : (w : World) (h : Handle) (u : World) → IsKnown h w → RunCommand (bare w) (bare_handle h) (Ok Did) u → Returns (λ v. RunCommand w h (Ok Did) v) u
run_back w h u known R = resolving_back plain w u (Ok Did) h
    (λ v i c. Acts (run_idle c c.commands) (Ok Did) w (with_component i (run_front (look w) c.commands c) w) v)
    (λ i c. Acts (run_idle c c.commands) (Ok Did) (bare w) (with_component i (run_front (look (bare w)) c.commands c) (bare w)) u)
    known
    (λ i c at A. acts_back OmxError (run_idle c c.commands) (run_idle (bare_component c) c.commands) w (with_component i (run_front (look w) c.commands c) w) _ u
    (λ e. sym (idle_same c.commands c) ∙ e)
    (put_bare i (run_front (look (bare w)) c.commands (bare_component c)) (run_front (look w) c.commands c) w (front_same w c.commands c)) A)
    R

supply_none : (w : World) (c : Component) (p : Port) → supply_idle (look (bare w)) (bare_component c) p ≡ None → supply_idle (look w) c p ≡ None
supply_none w c p e =
    let here = supply_list (look w) c p (other_end w.components p) in
    let there = supply_list (look (bare w)) (bare_component c) p (option_map bare_end (other_end w.components p)) in
    none_alike there here (flipped here there (supply_tests w c p (other_end w.components p)))
    (subst (λ (o : Option End). first_of_these (supply_list (look (bare w)) (bare_component c) p o) ≡ None) (other_same w.components p) e)

pub supply_back : (w : World) (h : Handle) (port : ℕ) (u : World) → IsKnown h w → Supply (bare w) (bare_handle h) port (Ok Did) u → Returns (λ v. Supply w h port (Ok Did) v) u
supply_back w h port u known R = port_back Omx w u (Ok Did) h port
    (λ v i c p. Acts (supply_idle (look w) c p) (Ok Did) w (with_supplied p w) v)
    (λ i c p. Acts (supply_idle (look (bare w)) c p) (Ok Did) (bare w) (with_supplied p (bare w)) u)
    known
    (λ i c p A. acts_back CallError (supply_idle (look w) c p) (supply_idle (look (bare w)) (bare_component c) p) w _ _ u (supply_none w c p) refl A)
    R

pub release_back : (w : World) (h : Handle) (port : ℕ) (u : World) → IsKnown h w → Release (bare w) (bare_handle h) port (Ok Did) u → Returns (λ v. Release w h port (Ok Did) v) u
release_back w h port u known R = port_back plain w u (Ok Did) h port
    (λ v i c p. Acts (release_idle (look w) c p) (Ok Did) w (front_unmade (in_port (seen w.headers) p) w) v)
    (λ i c p. Acts (release_idle (look (bare w)) c p) (Ok Did) (bare w) (front_unmade (in_port (seen w.headers) p) (bare w)) u)
    known
    (λ i c p A. acts_back OmxError (release_idle (look w) c p) (release_idle (look (bare w)) (bare_component c) p) w _ _ u (λ e. e) (unmade_same (in_port (seen w.headers) p) w) A)
    R

over_none : (w : World) (c : Component) (p : Port) → over_idle (look (bare w)) (bare_component c) p ≡ None → over_idle (look w) c p ≡ None
over_none w c p e =
    let here = over_list (look w) c p (other_end w.components p) in
    let there = over_list (look (bare w)) (bare_component c) p (option_map bare_end (other_end w.components p)) in
    none_alike there here (flipped here there (over_tests w c p (other_end w.components p)))
    (subst (λ (o : Option End). first_of_these (over_list (look (bare w)) (bare_component c) p o) ≡ None) (other_same w.components p) e)

pub over_back : (w : World) (h : Handle) (port : ℕ) (u : World) → IsKnown h w → HandOver (bare w) (bare_handle h) port (Ok Did) u → Returns (λ v. HandOver w h port (Ok Did) v) u
over_back w h port u known R = port_back plain w u (Ok Did) h port
    (λ v i c p. Acts (over_idle (look w) c p) (Ok Did) w (handed_over p w) v)
    (λ i c p. Acts (over_idle (look (bare w)) c p) (Ok Did) (bare w) (handed_over p (bare w)) u)
    known
    (λ i c p A. acts_back OmxError (over_idle (look w) c p) (over_idle (look (bare w)) (bare_component c) p) w (handed_over p w) (handed_over p (bare w)) u (over_none w c p) (over_put w p) A)
    R

pub back_back : (w : World) (h : Handle) (port : ℕ) (u : World) → IsKnown h w → HandBack (bare w) (bare_handle h) port (Ok Did) u → Returns (λ v. HandBack w h port (Ok Did) v) u
back_back w h port u known R = port_back plain w u (Ok Did) h port
    (λ v i c p. Acts (back_idle (look w) c p) (Ok Did) w (handed_back i c p p.state.link w) v)
    (λ i c p. Acts (back_idle (look (bare w)) c p) (Ok Did) (bare w) (handed_back i c p p.state.link (bare w)) u)
    known
    (λ i c p A. acts_back OmxError (back_idle (look w) c p) (back_idle (look (bare w)) (bare_component c) p) w _ _ u
    (λ e. none_alike (back_list (look (bare w)) (bare_component c) p) (back_list (look w) c p) (flipped (back_list (look w) c p) (back_list (look (bare w)) (bare_component c) p) (back_tests w c p)) e)
    (handed_same i c p p.state.link w) A)
    R

claims_back : (o : Option Claimed) (i : ℕ) (c : Component) (w : World) (result : Result Claimed OmxError) (u : World) → Claims o i (bare_component c) (bare w) result u
    → Returns (λ v. Claims o i c w result v) u
claims_back (Some idle) i c w result u (is, same) = record { v = w; does = (is, refl); is = sym same }
claims_back None i c w result u (is, closes) =
    let work = work_of (seen w.headers) c in
    kept (ClosesTo (with_work i c work w)) (λ v. Claims None i c w result v) u (λ v C. (is, C)) (closes_back (with_work i c work w) _ u (work_put i c w) closes)

pub claim_back : (w : World) (h : Handle) (result : Result Claimed OmxError) (u : World) → IsKnown h w → Claim (bare w) (bare_handle h) result u → Returns (λ v. Claim w h result v) u
claim_back w h result u known R = resolving_back plain w u result h
    (λ v i c. Claims (claim_idle (look w) c) i c w result v)
    (λ i c. Claims (claim_idle (look (bare w)) c) i c (bare w) result u)
    known (λ i c at A. claims_back (claim_idle (look w) c) i c w result u A) R

pub finish_back : (w : World) (done : WorkDone) (u : World) → IsUnmarked done.headers → Finish (bare w) done u → Returns (λ v. Finish w done v) u
finish_back w done u unmarked F =
    go (place_numbered done.component w.components)
    (subst (λ (o : Option ℕ). MatchOption o ⊥ (λ i. MatchOption (slice_get (bare w).components i) ⊥ (λ c. ClosesTo (finished i c done (bare w)) u))) (numbered_same done.component w.components) F)
  where
    at : (i : ℕ) (o : Option Component) → MatchOption (option_map bare_component o) ⊥ (λ c. ClosesTo (finished i c done (bare w)) u) → Returns (λ v. MatchOption o ⊥ (λ c. ClosesTo (finished i c done w) v)) u
    at i None h = absurd h
    at i (Some c) h = closes_back (finished i c done w) _ u (finished_same i c done c.work w unmarked) h

    go : (o : Option ℕ) → MatchOption o ⊥ (λ i. MatchOption (slice_get (bare w).components i) ⊥ (λ c. ClosesTo (finished i c done (bare w)) u))
        → Returns (λ v. MatchOption o ⊥ (λ i. MatchOption (slice_get w.components i) ⊥ (λ c. ClosesTo (finished i c done w) v))) u
    go None h = absurd h
    go (Some i) h = at i (slice_get w.components i) (subst (λ (o : Option Component). MatchOption o ⊥ (λ c. ClosesTo (finished i c done (bare w)) u)) (slice_get-map bare_component w.components i) h)

-- ---- a note is taken, and the client object handed back

takes_back : (w : World) (i : ℕ) (c : Component) (event : Event) (u : World) (out : Bool) (o : Option Note) → TakeFrom (bare w) i (bare_component c) out o (is_told event) u
    → Returns (λ v. TakeFrom w i c out o (is_told event) v) u
takes_back w i c event u true o t = absurd (let e = t.0 in cc)
takes_back w i c event u false None t = absurd (let e = t.0 in cc)
takes_back w i c event u false (Some (Told e)) (is, closes) =
    kept (ClosesTo (with_given i c (Told e) w)) (λ v. TakeFrom w i c false (Some (Told e)) (is_told event) v) u (λ v C. (is, C))
    (closes_back (with_given i c (Told e) w) _ u (given_same i c (Told e) w) closes)
takes_back w i c event u false (Some (EmptyDone n)) t = absurd (no_header (find_header n w.headers) _ (λ r a. let e = a.0 in cc) t)
takes_back w i c event u false (Some (FillDone n)) t = absurd (no_header (find_header n w.headers) _ (λ r a. let e = a.0 in cc) t)

pub take_back : (w : World) (h : Handle) (event : Event) (u : World) → IsKnown h w → TakeNote (bare w) (bare_handle h) (is_told event) u → Returns (λ v. TakeNote w h (is_told event) v) u
take_back w h event u known R = resolving_back plain w u (is_told event) h
    (λ v i c. TakeFrom w i c c.client_out (slice_get c.notes 0) (is_told event) v)
    (λ i c. TakeFrom (bare w) i c c.client_out (slice_get c.notes 0) (is_told event) u)
    known (λ i c at A. takes_back w i c event u c.client_out (slice_get c.notes 0) A) R

pub end_back : (w : World) (h : Handle) (u : World) → IsKnown h w → EndNote (bare w) (bare_handle h) u → Returns (λ v. EndNote w h v) u
end_back w h u known E =
    go (place_of h w.components)
    (subst (λ (o : Option ℕ). MatchOption o ⊥ (λ i. MatchOption (slice_get (bare w).components i) ⊥ (λ c. ClosesTo (with_component i (back_in c) (bare w)) u))) (place_same h w known) E)
  where
    at : (i : ℕ) (o : Option Component) → MatchOption (option_map bare_component o) ⊥ (λ c. ClosesTo (with_component i (back_in c) (bare w)) u) → Returns (λ v. MatchOption o ⊥ (λ c. ClosesTo (with_component i (back_in c) w) v)) u
    at i None h = absurd h
    at i (Some c) h = closes_back (with_component i (back_in c) w) _ u (put_bare i (back_in (bare_component c)) (back_in c) w refl) h

    go : (o : Option ℕ) → MatchOption o ⊥ (λ i. MatchOption (slice_get (bare w).components i) ⊥ (λ c. ClosesTo (with_component i (back_in c) (bare w)) u))
        → Returns (λ v. MatchOption o ⊥ (λ i. MatchOption (slice_get w.components i) ⊥ (λ c. ClosesTo (with_component i (back_in c) w) v))) u
    go None h = absurd h
    go (Some i) h = at i (slice_get w.components i) (subst (λ (o : Option Component). MatchOption o ⊥ (λ c. ClosesTo (with_component i (back_in c) (bare w)) u)) (slice_get-map bare_component w.components i) h)

-- ---- acts on a port that are refused: the port isn't there

pub supply_refused_back : (w : World) (h : Handle) (port : ℕ) (e : CallError) (u : World) → IsKnown h w → Supply (bare w) (bare_handle h) port (Err e) u → Returns (λ v. Supply w h port (Err e) v) u
supply_refused_back w h port e u known R = port_back Omx w u (Err e) h port
    (λ v i c p. Acts (supply_idle (look w) c p) (Err e) w (with_supplied p w) v)
    (λ i c p. Acts (supply_idle (look (bare w)) c p) (Err e) (bare w) (with_supplied p (bare w)) u)
    known (λ i c p A. absurd (acts_never CallError (supply_idle (look (bare w)) (bare_component c) p) e (bare w) (with_supplied p (bare w)) u A)) R

pub release_refused_back : (w : World) (h : Handle) (port : ℕ) (e : OmxError) (u : World) → IsKnown h w → Release (bare w) (bare_handle h) port (Err e) u → Returns (λ v. Release w h port (Err e) v) u
release_refused_back w h port e u known R = port_back plain w u (Err e) h port
    (λ v i c p. Acts (release_idle (look w) c p) (Err e) w (front_unmade (in_port (seen w.headers) p) w) v)
    (λ i c p. Acts (release_idle (look (bare w)) c p) (Err e) (bare w) (front_unmade (in_port (seen w.headers) p) (bare w)) u)
    known (λ i c p A. absurd (acts_never OmxError (release_idle (look (bare w)) (bare_component c) p) e (bare w) (front_unmade (in_port (seen w.headers) p) (bare w)) u A)) R

pub over_refused_back : (w : World) (h : Handle) (port : ℕ) (e : OmxError) (u : World) → IsKnown h w → HandOver (bare w) (bare_handle h) port (Err e) u → Returns (λ v. HandOver w h port (Err e) v) u
over_refused_back w h port e u known R = port_back plain w u (Err e) h port
    (λ v i c p. Acts (over_idle (look w) c p) (Err e) w (handed_over p w) v)
    (λ i c p. Acts (over_idle (look (bare w)) c p) (Err e) (bare w) (handed_over p (bare w)) u)
    known (λ i c p A. absurd (acts_never OmxError (over_idle (look (bare w)) (bare_component c) p) e (bare w) (handed_over p (bare w)) u A)) R

pub back_refused_back : (w : World) (h : Handle) (port : ℕ) (e : OmxError) (u : World) → IsKnown h w → HandBack (bare w) (bare_handle h) port (Err e) u → Returns (λ v. HandBack w h port (Err e) v) u
back_refused_back w h port e u known R = port_back plain w u (Err e) h port
    (λ v i c p. Acts (back_idle (look w) c p) (Err e) w (handed_back i c p p.state.link w) v)
    (λ i c p. Acts (back_idle (look (bare w)) c p) (Err e) (bare w) (handed_back i c p p.state.link (bare w)) u)
    known (λ i c p A. absurd (acts_never OmxError (back_idle (look (bare w)) (bare_component c) p) e (bare w) (handed_back i (bare_component c) p p.state.link (bare w)) u A)) R
