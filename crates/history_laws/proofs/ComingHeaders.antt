-- No header comes to the client but the one that an act gives, and one that was taken in isn't with it.
use Rattle.std.proofs.Common.{◌≡◌, ◌≢◌, inl, inr, ℕ, List, [], ◌∷◌, ◌++◌, Option, Some, None, Ok, All, map, option_map, sym, ◌∙◌, ap, subst}
use Rattle.std.proofs.lemmas.Bool.{cases_eq}
use Rattle.std.proofs.lemmas.List.Elements.{All-head, All-tail}
use Rattle.il_machine.specs.declared.header.HeaderState.{HeaderState}
use Rattle.il_machine.specs.declared.header.Owner.{Owner}
use Rattle.il_machine.specs.declared.header.Owner.TheVariants as owners
use Rattle.il_machine.specs.declared.header.Queue.TheVariants.{Out}
use Rattle.il_machine.specs.declared.port.Link.{Link}
use Rattle.il_machine.specs.declared.port.Port.{Port}
use Rattle.il_machine.specs.World.{Component, HeaderRecord, Stream, World, component_numbered, stream_of}
use Rattle.il_machine.specs.Headers.{find_header, state_of, without, empty_load, Once}
use Rattle.il_machine.specs.Look.{look}
use Rattle.il_machine.specs.Due.{ClosesTo}
use Rattle.il_machine.specs.Notes.{TakenEmpty, TakenFilled, TookNote}
use Rattle.il_machine.specs.declared.answer.Acted.TheVariants.{Did}
use Rattle.il_machine.specs.Claims.{CarriedHeader, ClaimedWork}
use Rattle.il_machine.specs.Stepping.{WorkDone}
use Rattle.il_machine.specs.Finishing.{Landing, Again, Onward, Noted, landing}
use Rattle.il_machine.specs.Acts.{Act, Reply}
use Rattle.il_machine.specs.Acts as acts
use Rattle.il_machine.specs.Run.{Step, Meets, Run}
use Rattle.il_machine.specs.Sound.{Sound}
use Rattle.il_machine.specs.Trails.{Stop, Unmade, With, Move, moves, moved, front_move, client_stop, release_moves, over, over_moves, back, back_moves, port_named, trail, claimed_move, finished_move, finished_moves, landed_owner}
use Rattle.machine_laws.proofs.Finding.{found_number, push_last, push_else, without_else, without_same}
use Rattle.machine_laws.proofs.Parts.{parts_of}
use Rattle.machine_laws.proofs.Steps.{HandsIn, hands_in, sound_after, sound_step}
use Rattle.machine_laws.proofs.Happening.{sound_closes}
use Rattle.history_laws.specs.ClientHeaders.{IsClients, taken_in, number_out}
use Rattle.history_laws.proofs.Owners.{Settles, Stand, stand_of}
use Rattle.history_laws.proofs.Closing.{times_settle}
use Rattle.history_laws.proofs.Carried.{Carried, Still, Made, Gone, Moved, Several, AreBelow, none_made}
use Rattle.history_laws.proofs.Homes.{found_state}
use Rattle.history_laws.proofs.Trails.{trail_own}
use Rattle.history_laws.proofs.Outcome.{Turn, turn, Outcome, Nothing, Done}
use Rattle.history_laws.proofs.Steps.{comes_after}
use Rattle.history_laws.proofs.ClientHeaders.{first_move, client_out, settled_found, same_state, carried_once}

-- ---- the moves of an act that gives the client a header

abbrev one_move : ℕ → Stop → Stop → Move
one_move number from to = record { header = number; from = from; to = to }

not_given : (number : ℕ) (from to start : Stop) (ns : List ℕ) → to ≢ client_stop → front_move from to ns ≢ moved number start client_stop
not_given number from to start [] a e = absurd cc
not_given number from to start (n ∷ ns) a e = a (ap (λ (y : Move). y.to) (first_move (one_move n from to) (one_move number start client_stop) e))

none_released : (w : World) (o : Option Port) (number : ℕ) (start : Stop) → release_moves w o ≢ moved number start client_stop
none_released w None number start e = absurd cc
none_released w (Some p) number start e = not_given number _ _ start _ (λ k. absurd cc) e

none_over : (w : World) (p : Port) (link : Option Link) (number : ℕ) (start : Stop) → over w p link ≢ moved number start client_stop
none_over w p None number start e = absurd cc
none_over w p (Some link) number start e = not_given number _ _ start _ (λ k. absurd cc) e

none_handed : (w : World) (o : Option Port) (number : ℕ) (start : Stop) → over_moves w o ≢ moved number start client_stop
none_handed w None number start e = absurd cc
none_handed w (Some p) number start e = none_over w p p.state.link number start e

none_back : (w : World) (p : Port) (link : Option Link) (number : ℕ) (start : Stop) → back w p link ≢ moved number start client_stop
none_back w p None number start e = not_given number _ _ start _ (λ k. absurd cc) e
none_back w p (Some link) number start e = not_given number _ _ start _ (λ k. absurd cc) e

none_handed_back : (w : World) (o : Option Port) (number : ℕ) (start : Stop) → back_moves w o ≢ moved number start client_stop
none_handed_back w None number start e = absurd cc
none_handed_back w (Some p) number start e = none_back w p p.state.link number start e

none_claimed : (k : ℕ) (xs : List CarriedHeader) (number : ℕ) (start : Stop) → map (claimed_move k) xs ≡ moved number start client_stop → ⊥
none_claimed k [] number start e = cc
none_claimed k (x ∷ xs) number start e =
    let s : claimed_move k x ≡ record { header = number; from = start; to = client_stop } = cc in
    let f = ap (λ (y : Move). y.to) s in
    cc

lands_apart : (l : Landing) (c : Component) (x : CarriedHeader) → With (landed_owner l c x) ≢ client_stop
lands_apart Again c x e = cc
lands_apart Onward c x e = cc
lands_apart Noted c x e = cc

none_landed : (c : Component) (s : Stream) (done : WorkDone) (xs : List CarriedHeader) (number : ℕ) (start : Stop) → map (finished_move c s done) xs ≡ moved number start client_stop → ⊥
none_landed c s done [] number start e = cc
none_landed c s done (x ∷ xs) number start e =
    let q : finished_move c s done x ≡ record { header = number; from = start; to = client_stop } = cc in
    lands_apart (landing c s done x) c x (ap (λ (y : Move). y.to) q)

none_finished : (c : Option Component) (s : Option Stream) (done : WorkDone) (number : ℕ) (start : Stop) → finished_moves c s done ≡ moved number start client_stop → ⊥
none_finished None s done number start e = cc
none_finished (Some c) None done number start e = cc
none_finished (Some c) (Some s) done number start e = none_landed c s done done.headers number start e

same_number : (number n : ℕ) (from to start end : Stop) → moved n from to ≡ moved number start end → Some n ≡ Some number
same_number number n from to start end e = ap (λ (y : Move). Some y.header) (first_move (one_move n from to) (one_move number start end) e)

not_to : (number n : ℕ) (from to start : Stop) → to ≢ client_stop → moved n from to ≢ moved number start client_stop
not_to number n from to start a e = not_given number from to start (n ∷ []) a e

gives : (w : World) (a : Act) (r : Reply) (number : ℕ) (start : Stop) → moves w a r ≡ moved number start client_stop → number_out a r ≡ Some number
gives w (acts.AllocateBuffer h port) (acts.Allocated (Ok header)) number start e = same_number number header.number Unmade client_stop start client_stop e
gives w (acts.UseBuffer h port bytes) (acts.Used (Ok header)) number start e = same_number number header.number Unmade client_stop start client_stop e
gives w (acts.FreeBuffer h port header) (acts.Freed (Ok memory)) number start e = absurd (not_to number header client_stop Unmade start (λ k. absurd cc) e)
gives w (acts.EmptyThisBuffer h port header) (acts.Plain (Ok done)) number start e = absurd (not_to number header.number client_stop _ start (λ k. absurd cc) e)
gives w (acts.FillThisBuffer h port header) (acts.Plain (Ok done)) number start e = absurd (not_to number header.number client_stop _ start (λ k. absurd cc) e)
gives w (acts.TakeNote h) (acts.Took (Ok (TookNote (TakenEmpty header)))) number start e = same_number number header.number _ client_stop start client_stop e
gives w (acts.TakeNote h) (acts.Took (Ok (TookNote (TakenFilled header)))) number start e = same_number number header.number _ client_stop start client_stop e
gives w (acts.Supply h port) (acts.Supplied (Ok Did)) number start e = absurd (not_to number w.made Unmade _ start (λ k. absurd cc) e)
gives w (acts.Release h port) (acts.Acted (Ok Did)) number start e = absurd (none_released w (port_named h port w) number start e)
gives w (acts.HandOver h port) (acts.Acted (Ok Did)) number start e = absurd (none_handed w (port_named h port w) number start e)
gives w (acts.HandBack h port) (acts.Acted (Ok Did)) number start e = absurd (none_handed_back w (port_named h port w) number start e)
gives w (acts.Claim h) (acts.Claimed (Ok (ClaimedWork work))) number start e = absurd (none_claimed work.component work.headers number start e)
gives w (acts.Finish done) acts.Finished number start e = absurd (none_finished (component_numbered done.component w) (stream_of done.component w) done number start e)
gives w _ _ number start e = absurd cc

-- the move of a header that is taken in: it leaves the client
record Leaves (number : ℕ) (ms : List Move) : Type 0 where
  to : Stop
  moves : ms ≡ moved number client_stop to
  away : to ≢ client_stop

leaves : (number n : ℕ) (to : Stop) → Some n ≡ Some number → to ≢ client_stop → Leaves number (moved n client_stop to)
leaves number n to e a = let q : n ≡ number = cc in record { to = to; moves = ap (λ (k : ℕ). moved k client_stop to) q; away = a }

takes_by : (w : World) (a : Act) (r : Reply) (number : ℕ) → taken_in a r ≡ Some number → Leaves number (moves w a r)
takes_by w (acts.FreeBuffer h port header) (acts.Freed (Ok memory)) number e = leaves number header _ e (λ k. absurd cc)
takes_by w (acts.EmptyThisBuffer h port header) (acts.Plain (Ok done)) number e = leaves number header.number _ e (λ k. absurd cc)
takes_by w (acts.FillThisBuffer h port header) (acts.Plain (Ok done)) number e = leaves number header.number _ e (λ k. absurd cc)
takes_by w _ _ number e = absurd cc

-- ---- over the act

-- a header that is the client's after the act
module _ (w v : World) (ms : List Move) (number : ℕ) (r : HeaderRecord) (f : find_header number v.headers ≡ Some r) (o : r.state.owner ≡ owners.Client) where
  is_client : (x : HeaderRecord) → find_header number v.headers ≡ Some x → x.state.owner ≡ owners.Client
  is_client x e =
      let s : Some x ≡ Some r = sym e ∙ f in
      let q : x ≡ r = cc in
      ap (λ (y : HeaderRecord). y.state.owner) q ∙ o

  carried_back : Once w.headers → AreBelow w → Carried w ms v → ((start : Stop) → ms ≢ moved number start client_stop) → find_header number w.headers ≡ Some r
  carried_back once B (Still S) n = ap (find_header number) (sym S.headers) ∙ f
  carried_back once B (Made M) n =
      let x : HeaderRecord = record { state = M.state; load = empty_load M.memory } in
      let none : find_header (M.state).number w.headers ≡ None = ap (λ (k : ℕ). find_header k w.headers) M.number ∙ none_made w B in
      elim (cases_eq number (M.state).number) [
        | inl is ↦
            let there : find_header number v.headers ≡ Some x = ap (find_header number) M.headers ∙ (ap (λ (k : ℕ). find_header k (w.headers ++ x ∷ [])) is ∙ push_last w.headers x none) in
            absurd (n Unmade (M.moves ∙ (ap (λ (k : ℕ). moved k Unmade (With (M.state).owner)) (sym M.number ∙ sym is) ∙ ap (λ (y : Owner). moved number Unmade (With y)) (is_client x there))))
        | inr a ↦ sym (ap (find_header number) M.headers ∙ push_else number w.headers x (λ k. a (sym k))) ∙ f
      ]
  carried_back once B (Gone M) n = elim (cases_eq number M.number) [
    | inl is ↦
        let none : find_header number v.headers ≡ None = ap (find_header number) M.headers ∙ (ap (λ (k : ℕ). find_header k (without M.number w.headers)) is ∙ without_same M.number w.headers once) in
        let e : None ≡ Some r = sym none ∙ f in
        absurd cc
    | inr a ↦ sym (ap (find_header number) M.headers ∙ without_else M.number number w.headers a) ∙ f
  ]
  carried_back once B (Moved M) n = elim (cases_eq number M.number) [
    | inl is ↦
        let there : find_header number v.headers ≡ Some M.now = ap (λ (k : ℕ). find_header k v.headers) is ∙ (M.replaced).here in
        absurd (n _ (M.moves ∙ (ap (λ (k : ℕ). moved k (With (M.was).state.owner) (With (M.now).state.owner)) (sym is) ∙ ap (λ (y : Owner). moved number (With (M.was).state.owner) (With y)) (is_client M.now there))))
    | inr a ↦ sym ((M.replaced).others number a) ∙ f
  ]
  carried_back once B (Several M) n = elim ((M.headers).each number) [
    | inl L ↦ sym L.0 ∙ f
    | inr P ↦ absurd (P.to_other (is_client P.now P.here))
  ]

  not_carried : Once w.headers → Carried w ms v → Leaves number ms → ⊥
  not_carried once (Still S) L = let e : [] ≡ moved number client_stop L.to = sym S.moves ∙ L.moves in absurd cc
  not_carried once (Made M) L =
      let e = ap (λ (y : Move). y.from) (first_move (one_move w.made Unmade (With (M.state).owner)) (one_move number client_stop L.to) (sym M.moves ∙ L.moves)) in
      absurd cc
  not_carried once (Gone M) L =
      let is = ap (λ (y : Move). y.header) (first_move (one_move M.number (With (M.was).state.owner) Unmade) (one_move number client_stop L.to) (sym M.moves ∙ L.moves)) in
      let none : find_header number v.headers ≡ None = ap (find_header number) M.headers ∙ (ap (λ (k : ℕ). find_header k (without M.number w.headers)) (sym is) ∙ without_same M.number w.headers once) in
      let e : None ≡ Some r = sym none ∙ f in
      absurd cc
  not_carried once (Moved M) L =
      let m = first_move (one_move M.number (With (M.was).state.owner) (With (M.now).state.owner)) (one_move number client_stop L.to) (sym M.moves ∙ L.moves) in
      let there : find_header number v.headers ≡ Some M.now = ap (λ (k : ℕ). find_header k v.headers) (sym (ap (λ (y : Move). y.header) m)) ∙ (M.replaced).here in
      L.away (sym (ap (λ (y : Move). y.to) m) ∙ ap With (is_client M.now there))
  not_carried once (Several M) L =
      let own : trail number ms ≡ moved number client_stop L.to = ap (trail number) L.moves ∙ trail_own (one_move number client_stop L.to) in
      elim ((M.headers).each number) [
        | inl x ↦ let e : [] ≡ moved number client_stop L.to = sym x.1 ∙ own in absurd cc
        | inr P ↦ P.to_other (is_client P.now P.here)
      ]

-- ---- and over the close-out

-- a header that is the client's after the close-out, as it stood before it
record StoodSo (w : World) (number : ℕ) (s : HeaderState) : Type 0 where
  was : HeaderRecord
  found : find_header number w.headers ≡ Some was
  owner : was.state.owner ≡ owners.Client
  now : HeaderRecord
  same : now.state ≡ s
  stands : stand_of was ≡ stand_of now
  number_is : now.state.number ≡ number
  out : now.state.queue ≡ Out

stood_so : (w v : World) (number : ℕ) (s : HeaderState) → Sound v → Settles w.headers v.headers → IsClients (look v) number s → StoodSo w number s
stood_so w v number s Z T H =
    let r = found_state number v s H.0 in
    let o : r.0.state.owner ≡ owners.Client = ap (λ (x : HeaderState). x.owner) r.2 ∙ H.1 in
    let x = settled_found number r.0 (find_header number w.headers) (sym (T.stands number) ∙ ap (option_map stand_of) r.1) in
    record {
      was = x.0;
      found = x.1;
      owner = ap (λ (y : Stand). y.owner) x.2 ∙ o;
      now = r.0;
      same = r.2;
      stands = x.2;
      number_is = found_number number v.headers r.0 r.1;
      out = client_out v number r.0 Z r.1 o;
    }

-- it was the client's in a sound world, as it is known
was_clients : (w u : World) (number : ℕ) (s : HeaderState) (D : StoodSo u number s) → Sound w → find_header number w.headers ≡ Some D.was → IsClients (look w) number s
was_clients w u number s D S f =
    let n : (D.was).state.number ≡ (D.now).state.number = found_number number w.headers D.was f ∙ sym D.number_is in
    let same : (D.was).state ≡ s = same_state (D.was).state (D.now).state n (client_out w number D.was S f D.owner ∙ sym D.out) D.stands ∙ D.same in
    (ap (option_map state_of) f ∙ ap (λ (y : HeaderState). Some y) same, ap (λ (y : HeaderState). y.owner) (sym same) ∙ D.owner)

pub closing_comes : (w v : World) (number : ℕ) (s : HeaderState) → Sound w → ClosesTo w v → IsClients (look v) number s → IsClients (look w) number s
closing_comes w v number s S C H =
    let D = stood_so w v number s (sound_closes w v C S) (times_settle C.steps w v C.by_steps S.once) H in
    was_clients w w number s D S D.found

outcome_comes : (w v : World) (t : Turn) (number : ℕ) (s : HeaderState) → Sound w → Sound v → Outcome w t v → IsClients (look v) number s → ((start : Stop) → t.moves ≢ moved number start client_stop) → IsClients (look w) number s
outcome_comes w v t number s S Z (Nothing e m) H n = subst (λ (x : World). IsClients (look x) number s) e H
outcome_comes w v t number s S Z (Done C E) H n =
    let once = carried_once w t.after t.moves S.once (parts_of w S).below E.carried in
    let D = stood_so t.after v number s Z (times_settle C.steps t.after v C.by_steps once) H in
    was_clients w t.after number s D S (carried_back w t.after t.moves number D.was D.found D.owner S.once (parts_of w S).below E.carried n)

outcome_leaves : (w v : World) (t : Turn) (number : ℕ) (s : HeaderState) → Sound w → Sound v → Outcome w t v → Leaves number t.moves → ¬ (IsClients (look v) number s)
outcome_leaves w v t number s S Z (Nothing e m) L H = let x : [] ≡ moved number client_stop L.to = ap (λ (y : Turn). y.moves) (sym m) ∙ L.moves in absurd cc
outcome_leaves w v t number s S Z (Done C E) L H =
    let once = carried_once w t.after t.moves S.once (parts_of w S).below E.carried in
    let D = stood_so t.after v number s Z (times_settle C.steps t.after v C.by_steps once) H in
    not_carried w t.after t.moves number D.was D.found D.owner S.once E.carried L

-- ---- steps and runs

-- the sizes of a header that is handed in don't matter
pub comes_to_client : (w : World) (a : Act) (r : Reply) (v : World) (number : ℕ) (s : HeaderState) → Sound w → HandsIn w a → Step w a r v → IsClients (look v) number s → number_out a r ≢ Some number → IsClients (look w) number s
comes_to_client w a r v number s S M h H n =
    outcome_comes w v (turn w a r) number s S (sound_after w v a r M h S) (comes_after w a r v S M h) H (λ start e. n (gives w a r number start e))

pub leaves_client : (w : World) (a : Act) (r : Reply) (v : World) (number : ℕ) (s : HeaderState) → Sound w → HandsIn w a → Step w a r v → taken_in a r ≡ Some number → ¬ (IsClients (look v) number s)
leaves_client w a r v number s S M h e =
    outcome_leaves w v (turn w a r) number s S (sound_after w v a r M h S) (comes_after w a r v S M h) (takes_by w a r number e)

pub steps_come : (w : World) (a : Act) (r : Reply) (v : World) (number : ℕ) (s : HeaderState) → Sound w → Meets w a → Step w a r v → IsClients (look v) number s → number_out a r ≢ Some number → IsClients (look w) number s
steps_come w a r v number s S M h H n = comes_to_client w a r v number s S (hands_in w a M) h H n

pub steps_taken : (w : World) (a : Act) (r : Reply) (v : World) (number : ℕ) (s : HeaderState) → Sound w → Meets w a → Step w a r v → taken_in a r ≡ Some number → ¬ (IsClients (look v) number s)
steps_taken w a r v number s S M h e = leaves_client w a r v number s S (hands_in w a M) h e

pub runs_come : (w v : World) (xs : List (Act × Reply)) (number : ℕ) (s : HeaderState) → Sound w → Run w xs v → IsClients (look v) number s → All (λ x. number_out x.0 x.1 ≢ Some number) xs → IsClients (look w) number s
runs_come w v [] number s S e H A = subst (λ (x : World). IsClients (look x) number s) e H
runs_come w v (x ∷ xs) number s S (mid, M, h, more) H A =
    steps_come w x.0 x.1 mid number s S M h
    (runs_come mid v xs number s (sound_step w mid x.0 x.1 M h S) more H (All-tail (λ y. number_out y.0 y.1 ≢ Some number) x xs A))
    (All-head (λ y. number_out y.0 y.1 ≢ Some number) x xs A)
