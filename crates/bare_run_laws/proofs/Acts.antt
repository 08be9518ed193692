-- One act in a bare world.
use Rattle.std.proofs.Common.{◌≡◌, ℕ, Bool, false, not, ◌&&◌, ◌||◌, ◌++◌, option_map, List, [], ◌∷◌, set, Option, Some, None, refl, sym, ◌∙◌, ap, subst}
use Rattle.std.specs.Prelude.{map, Result, Ok, Err}
use Rattle.omx_types.specs.declared.handle.Handle.{Handle}
use Rattle.omx_types.specs.declared.command.Command.{Command}
use Rattle.omx_types.specs.declared.command.Command.TheVariants.{StateSet, PortDisable, PortEnable}
use Rattle.omx_types.specs.declared.error.OmxError.{OmxError}
use Rattle.omx_types.specs.declared.error.CallError.{CallError}
use Rattle.omx_types.specs.declared.error.CallError.TheVariants.{Omx}
use Rattle.il_machine.specs.declared.answer.Acted.TheVariants.{Did}
use Rattle.il_machine.specs.declared.answer.Why.{Why}
use Rattle.il_machine.specs.declared.port.Link.{Link}
use Rattle.il_machine.specs.declared.port.Port.{Port}
use Rattle.il_machine.specs.Answers.{Acts, Answers, AnswersAs, plain}
use Rattle.il_machine.specs.Flow.{End, HandBack, HandOver, Release, Supply, at_end, back_idle, front_unmade, handed_back, handed_over, in_port, other_end, over_idle, release_idle, supply_idle, with_supplied}
use Rattle.il_machine.specs.Headers.{seen}
use Rattle.il_machine.specs.Lists.{first_of_these, is_empty}
use Rattle.il_machine.specs.declared.answer.Why.TheVariants as why
use Rattle.il_machine.specs.Buffers.{has_no_block, has_no_number, is_taking}
use Rattle.il_machine.specs.Claims.{Claim, Claimed, Claims, claim_idle, with_work, work_of}
use Rattle.il_machine.specs.Headers.{cleared, unchanged}
use Rattle.il_machine.specs.declared.header.Spot.TheVariants.{TodoBack}
use Rattle.il_machine.specs.Flow.{at_link, front_noticed, front_put, is_giving, returned, supplied_spot}
use Rattle.il_machine.specs.Look.{Look}
use Rattle.il_machine.specs.Ports.{accepting, id_of, is_input_port, is_supplier, returning}
use Rattle.il_machine.specs.States.{is_executing}
use Rattle.il_machine.specs.declared.header.Spot.{Spot}
use Rattle.il_machine.specs.declared.port.PortKey.{PortKey}
use Rattle.il_machine.specs.World.{HeaderRecord}
use Rattle.il_machine.specs.Commands.{SendCommand, is_at_once, send_refusal, sent}
use Rattle.il_machine.specs.Due.{ClosesTo}
use Rattle.il_machine.specs.Look.{look}
use Rattle.il_machine.specs.World.{Component, World, with_component}
use Rattle.machine_laws.proofs.Finding.{either}
use Rattle.bare_run_laws.specs.Bare.{IsKnown, IsOwnCommand, bare, bare_component, bare_handle}
use Rattle.bare_run_laws.proofs.Closings.{bare_closes, map_set}
use Rattle.bare_run_laws.proofs.Places.{bare_end, other_same, port_same, resolving_same}

-- the component at a place gave way to another one, whose bare form is this
pub put_bare : (i : ℕ) (d e : Component) (w : World) → d ≡ bare_component e → with_component i d (bare w) ≡ bare (with_component i e w)
put_bare i d e w is =
    let a = ap (λ (x : Component). set (map bare_component w.components) i x) is ∙ map_set bare_component w.components i e in
    λ j. record (bare w) { components = a j }

-- ---- send_command

pub sent_same : (command : Command) (c : Component) → sent command (bare_component c) ≡ bare_component (sent command c)
sent_same command c = either (is_at_once command) (λ t. rw t refl) (λ f. rw f refl)

pub refused_same : (w : World) (c : Component) (command : Command) → IsOwnCommand command → send_refusal (look (bare w)) (bare_component c) command ≡ send_refusal (look w) c command
refused_same w c (StateSet state) own = refl
refused_same w c (PortDisable ports) own = refl
refused_same w c (PortEnable ports) own = refl
refused_same w c other own = absurd own

pub answers_same : {T : Type 0} (o : Option OmxError) (result : Result T OmxError) (w v : World) (Then Else : T → Type 0) → ((x : T) → Then x → Else x) → AnswersAs plain o result w v Then → AnswersAs plain o result (bare w) (bare v) Else
answers_same (Some e) result w v Then Else goes (is, same) = (is, ap bare same)
answers_same None (Ok x) w v Then Else goes h = goes x h
answers_same None (Err e) w v Then Else goes h = h

pub send_bare : (w : World) (h : Handle) (command : Command) (result : Result (Unit {0}) OmxError) (v : World) → IsKnown h w → IsOwnCommand command → SendCommand w h command result v → SendCommand (bare w) (bare_handle h) command result (bare v)
send_bare w h command result v known own S = resolving_same w v h result
    (λ i c. Answers (send_refusal (look w) c command) result w v (λ _. ClosesTo (with_component i (sent command c) w) v))
    (λ i c. Answers (send_refusal (look (bare w)) c command) result (bare w) (bare v) (λ _. ClosesTo (with_component i (sent command c) (bare w)) (bare v)))
    known
    (λ i c there A. subst (λ (o : Option OmxError). AnswersAs plain o result (bare w) (bare v) (λ _. ClosesTo (with_component i (sent command (bare_component c)) (bare w)) (bare v)))
    (sym (refused_same w c command own))
    (answers_same (send_refusal (look w) c command) result w v _ _ (λ x C. subst (λ (u : World). ClosesTo u (bare v)) (sym (put_bare i (sent command (bare_component c)) (sent command c) w (sent_same command c))) (bare_closes (with_component i (sent command c) w) v C)) A))
    S

-- ---- acts on a port

-- an accepted act isn't idle, and goes on the same way
pub acts_same : (E : Type 0) (o other : Option Why) (w after then v : World) → (o ≡ None → other ≡ None) → then ≡ bare after → Acts {E = E} o (Ok Did) w after v → Acts {E = E} other (Ok Did) (bare w) then (bare v)
acts_same E (Some why) other w after then v none is (answer, same) = absurd cc
acts_same E None other w after then v none is (answer, closes) =
    subst (λ (o : Option Why). Acts {E = E} o (Ok Did) (bare w) then (bare v)) (sym (none refl))
    (refl, subst (λ (u : World). ClosesTo u (bare v)) (sym is) (bare_closes after v closes))

-- the lists have the same tests, with what answers ever
abbrev pub SameTests : {E : Type 0} → List (Bool × E) → List (Bool × E) → Type 0
SameTests [] [] = Unit {0}
SameTests (x ∷ xs) (y ∷ ys) = (x.0 ≡ y.0) × SameTests xs ys
SameTests _ _ = ⊥

pub none_alike : {E : Type 0} (xs ys : List (Bool × E)) → SameTests xs ys → first_of_these xs ≡ None → first_of_these ys ≡ None
none_alike [] [] same e = refl
none_alike [] (y ∷ ys) same e = absurd same
none_alike (x ∷ xs) [] same e = absurd same
none_alike (x ∷ xs) (y ∷ ys) same e = either x.0
    (λ t. let f : first_of_these (x ∷ xs) ≡ Some x.1 = rw t refl in let g : Some x.1 ≡ None = sym f ∙ e in absurd cc)
    (λ f.
    let rest : first_of_these xs ≡ None = let g : first_of_these (x ∷ xs) ≡ first_of_these xs = rw f refl in sym g ∙ e in
    let other : y.0 ≡ false = sym same.0 ∙ f in
    let h : first_of_these (y ∷ ys) ≡ first_of_these ys = rw other refl in
    h ∙ none_alike xs ys same.1 rest)

release_same : (w : World) (c : Component) (p : Port) → release_idle (look w) c p ≡ None → release_idle (look (bare w)) (bare_component c) p ≡ None
release_same w c p e = e

pub unmade_same : (numbers : List ℕ) (w : World) → front_unmade numbers (bare w) ≡ bare (front_unmade numbers w)
unmade_same [] w = refl
unmade_same (n ∷ ns) w = refl

pub release_bare : (w : World) (h : Handle) (port : ℕ) (v : World) → IsKnown h w → Release w h port (Ok Did) v → Release (bare w) (bare_handle h) port (Ok Did) (bare v)
release_bare w h port v known R = port_same plain w v (Ok Did) h port
    (λ i c p. Acts (release_idle (look w) c p) (Ok Did) w (front_unmade (in_port (seen w.headers) p) w) v)
    (λ i c p. Acts (release_idle (look (bare w)) c p) (Ok Did) (bare w) (front_unmade (in_port (seen w.headers) p) (bare w)) (bare v))
    known
    (λ i c p A. acts_same OmxError (release_idle (look w) c p) (release_idle (look (bare w)) (bare_component c) p) w _ _ v (release_same w c p) (unmade_same (in_port (seen w.headers) p) w) A)
    R

-- ---- supply

abbrev pub supply_list : Look → Component → Port → Option End → List (Bool × Why)
supply_list l c p o =
    (not (is_supplier p), why.NotSupplier)
    ∷ (not (accepting l.headers c p), why.NotAccepting (id_of c p))
    ∷ at_end o (λ e. (not (accepting l.headers e.component e.port), why.NotAccepting (id_of e.component e.port)) ∷ [])
    ++ (has_no_block l.headers, why.NoBlock)
    ∷ (has_no_number l, why.NoNumber)
    ∷ []

pub supply_tests : (w : World) (c : Component) (p : Port) (o : Option End) → SameTests (supply_list (look w) c p o) (supply_list (look (bare w)) (bare_component c) p (option_map bare_end o))
supply_tests w c p None = (refl, (refl, (refl, (refl, tt))))
supply_tests w c p (Some e) = (refl, (refl, (refl, (refl, (refl, tt)))))

supply_same : (w : World) (c : Component) (p : Port) → supply_idle (look w) c p ≡ None → supply_idle (look (bare w)) (bare_component c) p ≡ None
supply_same w c p e = subst (λ (o : Option End). first_of_these (supply_list (look (bare w)) (bare_component c) p o) ≡ None) (sym (other_same w.components p))
    (none_alike (supply_list (look w) c p (other_end w.components p)) (supply_list (look (bare w)) (bare_component c) p (option_map bare_end (other_end w.components p))) (supply_tests w c p (other_end w.components p)) e)

pub supply_bare : (w : World) (h : Handle) (port : ℕ) (v : World) → IsKnown h w → Supply w h port (Ok Did) v → Supply (bare w) (bare_handle h) port (Ok Did) (bare v)
supply_bare w h port v known R = port_same Omx w v (Ok Did) h port
    (λ i c p. Acts (supply_idle (look w) c p) (Ok Did) w (with_supplied p w) v)
    (λ i c p. Acts (supply_idle (look (bare w)) c p) (Ok Did) (bare w) (with_supplied p (bare w)) (bare v))
    known
    (λ i c p A. acts_same CallError (supply_idle (look w) c p) (supply_idle (look (bare w)) (bare_component c) p) w _ _ v (supply_same w c p) refl A)
    R

-- ---- hand_over

abbrev pub over_list : Look → Component → Port → Option End → List (Bool × Why)
over_list l c p o =
    (not (is_supplier p), why.NotSupplier)
    ∷ (not (is_giving c p), why.NotRunning (id_of c p))
    ∷ at_end o (λ e. (not (is_taking e.component e.port), why.NotRunning (id_of e.component e.port)) ∷ [])
    ++ (is_empty (l.headers.done p.key), why.NoHeader)
    ∷ []

pub over_tests : (w : World) (c : Component) (p : Port) (o : Option End) → SameTests (over_list (look w) c p o) (over_list (look (bare w)) (bare_component c) p (option_map bare_end o))
over_tests w c p None = (refl, (refl, (refl, tt)))
over_tests w c p (Some e) = (refl, (refl, (refl, (refl, tt))))

over_same : (w : World) (c : Component) (p : Port) → over_idle (look w) c p ≡ None → over_idle (look (bare w)) (bare_component c) p ≡ None
over_same w c p e = subst (λ (o : Option End). first_of_these (over_list (look (bare w)) (bare_component c) p o) ≡ None) (sym (other_same w.components p))
    (none_alike (over_list (look w) c p (other_end w.components p)) (over_list (look (bare w)) (bare_component c) p (option_map bare_end (other_end w.components p))) (over_tests w c p (other_end w.components p)) e)

pub put_same : (key : PortKey) (spot : Spot) (change : HeaderRecord → HeaderRecord) (ns : List ℕ) (w : World) → front_put key spot change ns (bare w) ≡ bare (front_put key spot change ns w)
put_same key spot change [] w = refl
put_same key spot change (n ∷ ns) w = refl

pub link_same : (o : Option Link) (change : PortKey → World → World) (w : World) → ((key : PortKey) → change key (bare w) ≡ bare (change key w)) → at_link o change (bare w) ≡ bare (at_link o change w)
link_same None change w same = refl
link_same (Some link) change w same = same link.peer

pub over_put : (w : World) (p : Port) → handed_over p (bare w) ≡ bare (handed_over p w)
over_put w p =
    link_same p.state.link (λ peer. front_put peer TodoBack unchanged ((seen w.headers).done p.key)) w
    (λ peer. put_same peer TodoBack unchanged ((seen w.headers).done p.key) w)

pub over_bare : (w : World) (h : Handle) (port : ℕ) (v : World) → IsKnown h w → HandOver w h port (Ok Did) v → HandOver (bare w) (bare_handle h) port (Ok Did) (bare v)
over_bare w h port v known R = port_same plain w v (Ok Did) h port
    (λ i c p. Acts (over_idle (look w) c p) (Ok Did) w (handed_over p w) v)
    (λ i c p. Acts (over_idle (look (bare w)) c p) (Ok Did) (bare w) (handed_over p (bare w)) (bare v))
    known
    (λ i c p A. acts_same OmxError (over_idle (look w) c p) (over_idle (look (bare w)) (bare_component c) p) w (handed_over p w) (handed_over p (bare w)) v (over_same w c p) (over_put w p) A)
    R

-- ---- hand_back

abbrev pub back_list : Look → Component → Port → List (Bool × Why)
back_list l c p =
    (is_supplier p, why.IsSupplier)
    ∷ (not (returning c p) && not (is_executing c.state), why.NotRunning (id_of c p))
    ∷ (is_empty (l.headers.done p.key) && (not (returning c p) || is_empty (l.headers.todo p.key)), why.NoHeader)
    ∷ []

pub back_tests : (w : World) (c : Component) (p : Port) → SameTests (back_list (look w) c p) (back_list (look (bare w)) (bare_component c) p)
back_tests w c p = (refl, (refl, (refl, tt)))

back_same : (w : World) (c : Component) (p : Port) → back_idle (look w) c p ≡ None → back_idle (look (bare w)) (bare_component c) p ≡ None
back_same w c p e = none_alike (back_list (look w) c p) (back_list (look (bare w)) (bare_component c) p) (back_tests w c p) e

returned_same : (supplier : PortKey) (is_input : Bool) (done todo : List ℕ) (w : World) → returned supplier is_input done todo (bare w) ≡ bare (returned supplier is_input done todo w)
returned_same supplier is_input (n ∷ rest) todo w = refl
returned_same supplier is_input [] todo w = put_same supplier (supplied_spot (not is_input)) cleared todo w

noticed_same : (i : ℕ) (c : Component) (p : Port) (ns : List ℕ) (w : World) → front_noticed i (bare_component c) p ns (bare w) ≡ bare (front_noticed i c p ns w)
noticed_same i c p [] w = refl
noticed_same i c p (n ∷ ns) w =
    let a = map_set bare_component w.components i _ in
    λ j. record (front_noticed i (bare_component c) p (n ∷ ns) (bare w)) { components = a j }

pub handed_same : (i : ℕ) (c : Component) (p : Port) (o : Option Link) (w : World) → handed_back i (bare_component c) p o (bare w) ≡ bare (handed_back i c p o w)
handed_same i c p (Some link) w = returned_same link.peer (is_input_port p) ((seen w.headers).done p.key) ((seen w.headers).todo p.key) w
handed_same i c p None w = noticed_same i c p ((seen w.headers).todo p.key) w

pub back_bare : (w : World) (h : Handle) (port : ℕ) (v : World) → IsKnown h w → HandBack w h port (Ok Did) v → HandBack (bare w) (bare_handle h) port (Ok Did) (bare v)
back_bare w h port v known R = port_same plain w v (Ok Did) h port
    (λ i c p. Acts (back_idle (look w) c p) (Ok Did) w (handed_back i c p p.state.link w) v)
    (λ i c p. Acts (back_idle (look (bare w)) c p) (Ok Did) (bare w) (handed_back i c p p.state.link (bare w)) (bare v))
    known
    (λ i c p A. acts_same OmxError (back_idle (look w) c p) (back_idle (look (bare w)) (bare_component c) p) w _ _ v (back_same w c p) (handed_same i c p p.state.link w) A)
    R

-- ---- acts on a port that are refused: the port isn't there

pub acts_never : (E : Type 0) (o : Option Why) (e : E) (w after v : World) → Acts {E = E} o (Err e) w after v → ⊥
acts_never E (Some why) e w after v h = let a = h.0 in cc
acts_never E None e w after v h = let a = h.0 in cc

pub supply_refused : (w : World) (h : Handle) (port : ℕ) (e : CallError) (v : World) → IsKnown h w → Supply w h port (Err e) v → Supply (bare w) (bare_handle h) port (Err e) (bare v)
supply_refused w h port e v known R = port_same Omx w v (Err e) h port
    (λ i c p. Acts (supply_idle (look w) c p) (Err e) w (with_supplied p w) v)
    (λ i c p. Acts (supply_idle (look (bare w)) c p) (Err e) (bare w) (with_supplied p (bare w)) (bare v))
    known (λ i c p A. absurd (acts_never CallError (supply_idle (look w) c p) e w (with_supplied p w) v A)) R

pub release_refused : (w : World) (h : Handle) (port : ℕ) (e : OmxError) (v : World) → IsKnown h w → Release w h port (Err e) v → Release (bare w) (bare_handle h) port (Err e) (bare v)
release_refused w h port e v known R = port_same plain w v (Err e) h port
    (λ i c p. Acts (release_idle (look w) c p) (Err e) w (front_unmade (in_port (seen w.headers) p) w) v)
    (λ i c p. Acts (release_idle (look (bare w)) c p) (Err e) (bare w) (front_unmade (in_port (seen w.headers) p) (bare w)) (bare v))
    known (λ i c p A. absurd (acts_never OmxError (release_idle (look w) c p) e w (front_unmade (in_port (seen w.headers) p) w) v A)) R

pub over_refused : (w : World) (h : Handle) (port : ℕ) (e : OmxError) (v : World) → IsKnown h w → HandOver w h port (Err e) v → HandOver (bare w) (bare_handle h) port (Err e) (bare v)
over_refused w h port e v known R = port_same plain w v (Err e) h port
    (λ i c p. Acts (over_idle (look w) c p) (Err e) w (handed_over p w) v)
    (λ i c p. Acts (over_idle (look (bare w)) c p) (Err e) (bare w) (handed_over p (bare w)) (bare v))
    known (λ i c p A. absurd (acts_never OmxError (over_idle (look w) c p) e w (handed_over p w) v A)) R

pub back_refused : (w : World) (h : Handle) (port : ℕ) (e : OmxError) (v : World) → IsKnown h w → HandBack w h port (Err e) v → HandBack (bare w) (bare_handle h) port (Err e) (bare v)
back_refused w h port e v known R = port_same plain w v (Err e) h port
    (λ i c p. Acts (back_idle (look w) c p) (Err e) w (handed_back i c p p.state.link w) v)
    (λ i c p. Acts (back_idle (look (bare w)) c p) (Err e) (bare w) (handed_back i c p p.state.link (bare w)) (bare v))
    known (λ i c p A. absurd (acts_never OmxError (back_idle (look w) c p) e w (handed_back i c p p.state.link w) v A)) R

-- ---- claim

pub work_put : (i : ℕ) (c : Component) (w : World) → with_work i (bare_component c) (work_of (seen w.headers) c) (bare w) ≡ bare (with_work i c (work_of (seen w.headers) c) w)
work_put i c w =
    let a = map_set bare_component w.components i (record c { work = Some (work_of (seen w.headers) c) }) in
    λ j. record (with_work i (bare_component c) (work_of (seen w.headers) c) (bare w)) { components = a j }

claims_same : (o : Option Claimed) (i : ℕ) (c : Component) (w : World) (result : Result Claimed OmxError) (v : World) → Claims o i c w result v → Claims o i (bare_component c) (bare w) result (bare v)
claims_same (Some idle) i c w result v (is, same) = (is, ap bare same)
claims_same None i c w result v (is, closes) =
    let work = work_of (seen w.headers) c in
    (is, subst (λ (u : World). ClosesTo u (bare v)) (sym (work_put i c w)) (bare_closes (with_work i c work w) v closes))

pub claim_bare : (w : World) (h : Handle) (result : Result Claimed OmxError) (v : World) → IsKnown h w → Claim w h result v → Claim (bare w) (bare_handle h) result (bare v)
claim_bare w h result v known R = resolving_same w v h result
    (λ i c. Claims (claim_idle (look w) c) i c w result v)
    (λ i c. Claims (claim_idle (look (bare w)) c) i c (bare w) result (bare v))
    known (λ i c there A. claims_same (claim_idle (look w) c) i c w result v A) R
