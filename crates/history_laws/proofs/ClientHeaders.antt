-- A header that is with the client stays so, as it is, unless an act takes it in.
use Rattle.std.proofs.Common.{◌≡◌, ◌≢◌, inl, inr, ℕ, List, [], ◌∷◌, Option, Some, None, Ok, All, map, option_map, refl, sym, ◌∙◌, ap, subst}
use Rattle.std.proofs.lemmas.Bool.{cases_eq}
use Rattle.std.proofs.lemmas.List.Elements.{All-head, All-tail}
use Rattle.il_machine.specs.declared.header.HeaderState.{HeaderState}
use Rattle.il_machine.specs.declared.header.Owner.{Owner}
use Rattle.il_machine.specs.declared.header.Owner.TheVariants as owners
use Rattle.il_machine.specs.declared.header.Queue.TheVariants.{Out}
use Rattle.il_machine.specs.declared.port.Link.{Link}
use Rattle.il_machine.specs.declared.port.Port.{Port}
use Rattle.il_machine.specs.World.{Component, HeaderRecord, Stream, World, component_numbered, stream_of}
use Rattle.il_machine.specs.Headers.{find_header, state_of, Once}
use Rattle.il_machine.specs.Look.{look}
use Rattle.il_machine.specs.Due.{ClosesTo}
use Rattle.il_machine.specs.Notes.{TakenEmpty, TakenFilled, TookNote}
use Rattle.il_machine.specs.declared.answer.Acted.TheVariants.{Did}
use Rattle.il_machine.specs.Claims.{CarriedHeader, ClaimedWork}
use Rattle.il_machine.specs.Stepping.{WorkDone}
use Rattle.il_machine.specs.Acts.{Act, Reply}
use Rattle.il_machine.specs.Acts as acts
use Rattle.il_machine.specs.Run.{Step, Meets, Run}
use Rattle.il_machine.specs.Sound.{Sound, IsOwnedSo}
use Rattle.il_machine.specs.Trails.{Stop, Unmade, With, Move, moves, moved, front_move, client_stop, release_moves, over, over_moves, back, back_moves, port_named, claimed_move, finished_move, finished_moves}
use Rattle.machine_laws.proofs.Finding.{found_number, push_else, without_else, once_push, once_without}
use Rattle.machine_laws.proofs.Parts.{parts_of}
use Rattle.machine_laws.proofs.Steps.{HandsIn, hands_in, sound_after, sound_step}
use Rattle.machine_laws.proofs.Happening.{sound_closes}
use Rattle.history_laws.specs.ClientHeaders.{IsClients, taken_in}
use Rattle.history_laws.proofs.Owners.{Settles, Stand, stand_of, stand_in}
use Rattle.history_laws.proofs.Closing.{times_settle}
use Rattle.history_laws.proofs.Carried.{Carried, Still, Made, Gone, Moved, Several, AreBelow, none_made}
use Rattle.history_laws.proofs.Homes.{found_state, set_in}
use Rattle.history_laws.proofs.Outcome.{Turn, turn, Outcome, Nothing, Done}
use Rattle.history_laws.proofs.Steps.{comes_after}

-- ---- the moves of an act that takes a header from the client

pub first_move : (m n : Move) → (m ∷ []) ≡ (n ∷ []) → m ≡ n
first_move m n e = cc

not_moved : (number : ℕ) (from to end : Stop) (ns : List ℕ) → from ≢ client_stop → front_move from to ns ≢ moved number client_stop end
not_moved number from to end [] a e = absurd cc
not_moved number from to end (n ∷ ns) a e =
    let m : Move = record { header = n; from = from; to = to } in
    let x : Move = record { header = number; from = client_stop; to = end } in
    a (ap (λ (y : Move). y.from) (first_move m x e))

not_released : (w : World) (o : Option Port) (number : ℕ) (end : Stop) → release_moves w o ≢ moved number client_stop end
not_released w None number end e = absurd cc
not_released w (Some p) number end e = not_moved number _ _ end _ (λ k. absurd cc) e

not_over : (w : World) (p : Port) (link : Option Link) (number : ℕ) (end : Stop) → over w p link ≢ moved number client_stop end
not_over w p None number end e = absurd cc
not_over w p (Some link) number end e = not_moved number _ _ end _ (λ k. absurd cc) e

not_handed : (w : World) (o : Option Port) (number : ℕ) (end : Stop) → over_moves w o ≢ moved number client_stop end
not_handed w None number end e = absurd cc
not_handed w (Some p) number end e = not_over w p p.state.link number end e

not_back : (w : World) (p : Port) (link : Option Link) (number : ℕ) (end : Stop) → back w p link ≢ moved number client_stop end
not_back w p None number end e = not_moved number _ _ end _ (λ k. absurd cc) e
not_back w p (Some link) number end e = not_moved number _ _ end _ (λ k. absurd cc) e

not_handed_back : (w : World) (o : Option Port) (number : ℕ) (end : Stop) → back_moves w o ≢ moved number client_stop end
not_handed_back w None number end e = absurd cc
not_handed_back w (Some p) number end e = not_back w p p.state.link number end e

not_claimed : (k : ℕ) (xs : List CarriedHeader) (number : ℕ) (end : Stop) → map (claimed_move k) xs ≡ moved number client_stop end → ⊥
not_claimed k [] number end e = cc
not_claimed k (x ∷ xs) number end e =
    let s : claimed_move k x ≡ record { header = number; from = client_stop; to = end } = cc in
    let f = ap (λ (y : Move). y.from) s in
    cc

not_landed : (c : Component) (s : Stream) (done : WorkDone) (xs : List CarriedHeader) (number : ℕ) (end : Stop) → map (finished_move c s done) xs ≡ moved number client_stop end → ⊥
not_landed c s done [] number end e = cc
not_landed c s done (x ∷ xs) number end e =
    let q : finished_move c s done x ≡ record { header = number; from = client_stop; to = end } = cc in
    let f = ap (λ (y : Move). y.from) q in
    cc

not_finished : (c : Option Component) (s : Option Stream) (done : WorkDone) (number : ℕ) (end : Stop) → finished_moves c s done ≡ moved number client_stop end → ⊥
not_finished None s done number end e = cc
not_finished (Some c) None done number end e = cc
not_finished (Some c) (Some s) done number end e = not_landed c s done done.headers number end e

taken : (number n : ℕ) (to end : Stop) → moved n client_stop to ≡ moved number client_stop end → Some n ≡ Some number
taken number n to end e =
    let m : Move = record { header = n; from = client_stop; to = to } in
    let x : Move = record { header = number; from = client_stop; to = end } in
    ap (λ (y : Move). Some y.header) (first_move m x e)

not_from : (number n : ℕ) (from to end : Stop) → from ≢ client_stop → moved n from to ≢ moved number client_stop end
not_from number n from to end a e = not_moved number from to end (n ∷ []) a e

pub takes : (w : World) (a : Act) (r : Reply) (number : ℕ) (end : Stop) → moves w a r ≡ moved number client_stop end → taken_in a r ≡ Some number
takes w (acts.AllocateBuffer h port) (acts.Allocated (Ok header)) number end e = absurd (not_from number header.number Unmade client_stop end (λ k. absurd cc) e)
takes w (acts.UseBuffer h port bytes) (acts.Used (Ok header)) number end e = absurd (not_from number header.number Unmade client_stop end (λ k. absurd cc) e)
takes w (acts.FreeBuffer h port header) (acts.Freed (Ok memory)) number end e = taken number header Unmade end e
takes w (acts.EmptyThisBuffer h port header) (acts.Plain (Ok done)) number end e = taken number header.number _ end e
takes w (acts.FillThisBuffer h port header) (acts.Plain (Ok done)) number end e = taken number header.number _ end e
takes w (acts.TakeNote h) (acts.Took (Ok (TookNote (TakenEmpty header)))) number end e = absurd (not_from number header.number _ client_stop end (λ k. absurd cc) e)
takes w (acts.TakeNote h) (acts.Took (Ok (TookNote (TakenFilled header)))) number end e = absurd (not_from number header.number _ client_stop end (λ k. absurd cc) e)
takes w (acts.Supply h port) (acts.Supplied (Ok Did)) number end e = absurd (not_from number w.made Unmade _ end (λ k. absurd cc) e)
takes w (acts.Release h port) (acts.Acted (Ok Did)) number end e = absurd (not_released w (port_named h port w) number end e)
takes w (acts.HandOver h port) (acts.Acted (Ok Did)) number end e = absurd (not_handed w (port_named h port w) number end e)
takes w (acts.HandBack h port) (acts.Acted (Ok Did)) number end e = absurd (not_handed_back w (port_named h port w) number end e)
takes w (acts.Claim h) (acts.Claimed (Ok (ClaimedWork work))) number end e = absurd (not_claimed work.component work.headers number end e)
takes w (acts.Finish done) acts.Finished number end e = absurd (not_finished (component_numbered done.component w) (stream_of done.component w) done number end e)
takes w _ _ number end e = absurd cc

-- ---- a header of the client's over the act

clients_move : (number n : ℕ) (r was : HeaderRecord) (hs : List HeaderRecord) (ms : List Move) (to : Stop) → find_header number hs ≡ Some r → r.state.owner ≡ owners.Client
    → find_header n hs ≡ Some was → number ≡ n → ms ≡ moved n (With was.state.owner) to → ms ≡ moved number client_stop to
clients_move number n r was hs ms to f o g is e =
    let s : Some was ≡ Some r = sym g ∙ (ap (λ (k : ℕ). find_header k hs) (sym is) ∙ f) in
    let q : was ≡ r = cc in
    e ∙ (ap (λ (k : ℕ). moved k (With was.state.owner) to) (sym is) ∙ ap (λ (x : Owner). moved number (With x) to) (ap (λ (x : HeaderRecord). x.state.owner) q ∙ o))

carried_found : (w v : World) (ms : List Move) (number : ℕ) (r : HeaderRecord) → AreBelow w → Carried w ms v → find_header number w.headers ≡ Some r → r.state.owner ≡ owners.Client
    → ((to : Stop) → ms ≢ moved number client_stop to) → find_header number v.headers ≡ Some r
carried_found w v ms number r B (Still S) f o n = ap (find_header number) S.headers ∙ f
carried_found w v ms number r B (Made M) f o n =
    let apart : (M.state).number ≢ number = λ e.
    let none : find_header number w.headers ≡ None = sym (ap (λ (k : ℕ). find_header k w.headers) (sym M.number ∙ e)) ∙ none_made w B in
    absurd cc in
    ap (find_header number) M.headers ∙ (push_else number w.headers _ apart ∙ f)
carried_found w v ms number r B (Gone M) f o n = elim (cases_eq number M.number) [
  | inl is ↦ absurd (n Unmade (clients_move number M.number r M.was w.headers ms Unmade f o M.found is M.moves))
  | inr a ↦ ap (find_header number) M.headers ∙ (without_else M.number number w.headers a ∙ f)
]
carried_found w v ms number r B (Moved M) f o n = elim (cases_eq number M.number) [
  | inl is ↦ absurd (n _ (clients_move number M.number r M.was w.headers ms _ f o M.replaced.was is M.moves))
  | inr a ↦ M.replaced.others number a ∙ f
]
carried_found w v ms number r B (Several M) f o n = elim ((M.headers).each number) [
  | inl L ↦ L.0 ∙ f
  | inr P ↦
      let s : Some P.was ≡ Some r = sym P.found ∙ f in
      let q : P.was ≡ r = cc in
      absurd (P.from_other (ap (λ (x : HeaderRecord). x.state.owner) q ∙ o))
]

pub carried_once : (w v : World) (ms : List Move) → Once w.headers → AreBelow w → Carried w ms v → Once v.headers
carried_once w v ms o B (Still S) = subst Once (sym S.headers) o
carried_once w v ms o B (Made M) = subst Once (sym M.headers) (once_push w.headers _ o (ap (λ (k : ℕ). find_header k w.headers) M.number ∙ none_made w B))
carried_once w v ms o B (Gone M) = subst Once (sym M.headers) (once_without M.number w.headers o)
carried_once w v ms o B (Moved M) = M.replaced.once
carried_once w v ms o B (Several M) = (M.headers).once

-- ---- and over the close-out

-- a header of a sound world that is with the client is in no list
pub client_out : (w : World) (number : ℕ) (r : HeaderRecord) → Sound w → find_header number w.headers ≡ Some r → r.state.owner ≡ owners.Client → r.state.queue ≡ Out
client_out w number r S f o =
    let own : IsOwnedSo r.state owners.Client = subst (λ (x : Owner). IsOwnedSo r.state x) o (set_in w number r S f).owner in
    own.0

pub settled_found : (number : ℕ) (r : HeaderRecord) (o : Option HeaderRecord) → option_map stand_of o ≡ Some (stand_of r) → (s : HeaderRecord) × (o ≡ Some s) × (stand_of s ≡ stand_of r)
settled_found number r None e = absurd cc
settled_found number r (Some s) e = let q : stand_of s ≡ stand_of r = cc in (s, refl, q)

-- the same number, the same place, and all else
pub same_state : (s t : HeaderState) → s.number ≡ t.number → s.queue ≡ t.queue → stand_in s ≡ stand_in t → s ≡ t
same_state s t n p e = λ i. record {
  number = n i;
  port = (e i).port;
  peer = (e i).peer;
  home = (e i).home;
  owner = (e i).owner;
  queue = p i;
  size = (e i).size;
  client_memory = (e i).client_memory;
}

-- a header that is with the client before the close-out
pub settled_clients : (w v : World) (number : ℕ) (r : HeaderRecord) → Sound v → Settles w.headers v.headers → find_header number w.headers ≡ Some r → r.state.owner ≡ owners.Client → r.state.queue ≡ Out → IsClients (look v) number r.state
settled_clients w v number r S T f o p =
    let x = settled_found number r (find_header number v.headers) (T.stands number ∙ ap (option_map stand_of) f) in
    let q : x.0.state.owner ≡ owners.Client = ap (λ (y : Stand). y.owner) x.2 ∙ o in
    let n : x.0.state.number ≡ r.state.number = found_number number v.headers x.0 x.1 ∙ sym (found_number number w.headers r f) in
    let same : x.0.state ≡ r.state = same_state x.0.state r.state n (client_out v number x.0 S x.1 q ∙ sym p) x.2 in
    (ap (option_map state_of) x.1 ∙ ap (λ (y : HeaderState). Some y) same, o)

pub closing_clients : (w v : World) (number : ℕ) (s : HeaderState) → Sound w → ClosesTo w v → IsClients (look w) number s → IsClients (look v) number s
closing_clients w v number s S C H =
    let r = found_state number w s H.0 in
    let o : r.0.state.owner ≡ owners.Client = ap (λ (x : HeaderState). x.owner) r.2 ∙ H.1 in
    subst (λ (x : HeaderState). IsClients (look v) number x) r.2
    (settled_clients w v number r.0 (sound_closes w v C S) (times_settle C.steps w v C.by_steps S.once) r.1 o (client_out w number r.0 S r.1 o))

-- ---- steps and runs

outcome_clients : (w v : World) (t : Turn) (number : ℕ) (s : HeaderState) → Sound w → Sound v → Outcome w t v → IsClients (look w) number s → ((to : Stop) → t.moves ≢ moved number client_stop to) → IsClients (look v) number s
outcome_clients w v t number s S Z (Nothing e m) H n = subst (λ (x : World). IsClients (look x) number s) (sym e) H
outcome_clients w v t number s S Z (Done C E) H n =
    let r = found_state number w s H.0 in
    let o : r.0.state.owner ≡ owners.Client = ap (λ (x : HeaderState). x.owner) r.2 ∙ H.1 in
    let once = carried_once w t.after t.moves S.once (parts_of w S).below E.carried in
    let f = carried_found w t.after t.moves number r.0 (parts_of w S).below E.carried r.1 o n in
    subst (λ (x : HeaderState). IsClients (look v) number x) r.2
    (settled_clients t.after v number r.0 Z (times_settle C.steps t.after v C.by_steps once) f o (client_out w number r.0 S r.1 o))

-- the sizes of a header that is handed in don't matter
pub clients_after : (w : World) (a : Act) (r : Reply) (v : World) (number : ℕ) (s : HeaderState) → Sound w → HandsIn w a → Step w a r v → IsClients (look w) number s → taken_in a r ≢ Some number → IsClients (look v) number s
clients_after w a r v number s S M h H n =
    outcome_clients w v (turn w a r) number s S (sound_after w v a r M h S) (comes_after w a r v S M h) H (λ to e. n (takes w a r number to e))

pub steps_clients : (w : World) (a : Act) (r : Reply) (v : World) (number : ℕ) (s : HeaderState) → Sound w → Meets w a → Step w a r v → IsClients (look w) number s → taken_in a r ≢ Some number → IsClients (look v) number s
steps_clients w a r v number s S M h H n = clients_after w a r v number s S (hands_in w a M) h H n

pub runs_clients : (w v : World) (xs : List (Act × Reply)) (number : ℕ) (s : HeaderState) → Sound w → Run w xs v → IsClients (look w) number s → All (λ x. taken_in x.0 x.1 ≢ Some number) xs → IsClients (look v) number s
runs_clients w v [] number s S e H A = subst (λ (x : World). IsClients (look x) number s) (sym e) H
runs_clients w v (x ∷ xs) number s S (mid, M, h, more) H A =
    runs_clients mid v xs number s (sound_step w mid x.0 x.1 M h S) more
    (steps_clients w x.0 x.1 mid number s S M h H (All-head (λ y. taken_in y.0 y.1 ≢ Some number) x xs A))
    (All-tail (λ y. taken_in y.0 y.1 ≢ Some number) x xs A)
