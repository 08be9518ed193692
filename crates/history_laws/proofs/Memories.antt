-- A header's memory stays in each step that doesn't hand the header in.
use Rattle.std.proofs.Common.{◌≡◌, ◌≢◌, inl, inr, ℕ, ◌<◌, ◌≤◌, false, nat_eq, List, [], ◌∷◌, Option, Some, None, is_some, Ok, All, option_map, refl, sym, ◌∙◌, ap, subst, arith}
use Rattle.std.specs.List.{list_any}
use Rattle.std.proofs.lemmas.Bool.{cases_eq}
use Rattle.std.proofs.lemmas.List.Elements.{All-head, All-tail}
use Rattle.omx_types.specs.declared.handle.Handle.{Handle}
use Rattle.il_machine.specs.declared.port.PortKey.{PortKey}
use Rattle.il_machine.specs.declared.header.HeaderState.{HeaderState}
use Rattle.il_machine.specs.declared.header.Owner.{Owner}
use Rattle.il_machine.specs.declared.header.Owner.TheVariants as owners
use Rattle.il_machine.specs.declared.header.Spot.TheVariants.{TodoBack}
use Rattle.il_machine.specs.World.{Component, HeaderRecord, Load, World, component_numbered, port_of}
use Rattle.il_machine.specs.Claims.{CarriedHeader}
use Rattle.il_machine.specs.Headers.{find_header, without, state_of, loaded, unloaded, Once}
use Rattle.il_machine.specs.Look.{look}
use Rattle.il_machine.specs.Due.{ClosesTo}
use Rattle.il_machine.specs.Answers.{plain}
use Rattle.il_machine.specs.Buffers.{Held, load_in, empty_refusal, fill_refusal, with_todo}
use Rattle.il_machine.specs.Acts.{Act, Reply}
use Rattle.il_machine.specs.Acts as acts
use Rattle.il_machine.specs.Run.{Step, Meets, Run}
use Rattle.il_machine.specs.Sound.{Sound}
use Rattle.il_machine.specs.Trails.{Unmade, With, Move, moves, moved, trail, client_stop}
use Rattle.machine_laws.proofs.Finding.{either, push_found, without_else, without_same}
use Rattle.machine_laws.proofs.Accepting.{not_either}
use Rattle.machine_laws.proofs.Keys.{there_is}
use Rattle.machine_laws.proofs.Replacing.{replaced_put}
use Rattle.machine_laws.proofs.Parts.{parts_of}
use Rattle.machine_laws.proofs.Steps.{sound_step, sound_run_of}
use Rattle.history_laws.specs.ClientHeaders.{taken_in, given_out}
use Rattle.history_laws.specs.Memory.{memory_of, memory_at, HasMemory, handed_in, number_in, content_of, filled_by, filled_in, with_front, RunFills, brings}
use Rattle.history_laws.proofs.Closing.{times_settle}
use Rattle.history_laws.proofs.Carried.{Carried as CarriedBy, Still, Made, Gone, Moved, Several}
use Rattle.history_laws.proofs.Homes.{found_state}
use Rattle.history_laws.proofs.ClientHeaders.{first_move, takes, carried_once}
use Rattle.history_laws.proofs.Filling.{finished_memory, from_no_work, is_unfilled}
use Rattle.history_laws.proofs.GivenHeaders.{resolved, accepted, closed_memory, steps_give}
use Rattle.history_laws.proofs.MadeFor.{made_for_step, made_grows}
use Rattle.history_laws.proofs.Outcome.{Turn, turn, Outcome, Nothing, Done}
use Rattle.history_laws.proofs.Steps.{step_comes}

-- the header that has the memory
has_memory : (number : ℕ) (w : World) (memory : Option (List ℕ)) (o : Option HeaderRecord) → find_header number w.headers ≡ o → HasMemory w number memory → (r : HeaderRecord) × (find_header number w.headers ≡ Some r) × (memory_of r ≡ memory)
has_memory number w memory None f H = let e : None ≡ Some memory = sym (ap (option_map memory_of) f) ∙ H in absurd cc
has_memory number w memory (Some r) f H =
    let e : Some (memory_of r) ≡ Some memory = sym (ap (option_map memory_of) f) ∙ H in
    let is : memory_of r ≡ memory = cc in
    (r, f, is)

-- ---- over the act

module _ (w v : World) (number : ℕ) (before after : Option (List ℕ)) (H : HasMemory w number before) (K : HasMemory v number after) where
  as_before : memory_at number v.headers ≡ memory_at number w.headers → after ≡ before
  as_before e = let s : Some after ≡ Some before = sym K ∙ (e ∙ H) in cc

  found_before : find_header number v.headers ≡ find_header number w.headers → after ≡ before
  found_before e = as_before (ap (option_map memory_of) e)

  carried_memory : (ms : List Move) → Once w.headers → CarriedBy w ms v → ((to : Owner) → ms ≢ moved number client_stop (With to)) → ((k : ℕ) (to : Owner) → trail number ms ≢ moved number (With (owners.Work k)) (With to)) → after ≡ before
  carried_memory ms o (Still S) n h = found_before (ap (find_header number) S.headers)
  carried_memory ms o (Made M) n h =
      let r = has_memory number w before (find_header number w.headers) refl H in
      found_before (ap (find_header number) M.headers ∙ (push_found number w.headers _ r.0 r.1 ∙ sym r.1))
  carried_memory ms o (Gone M) n h = elim (cases_eq number M.number) [
    | inl is ↦
        let none : find_header number v.headers ≡ None = ap (find_header number) M.headers ∙ (ap (λ (k : ℕ). find_header k (without M.number w.headers)) is ∙ without_same M.number w.headers o) in
        let e : None ≡ Some after = sym (ap (option_map memory_of) none) ∙ K in
        absurd cc
    | inr a ↦ found_before (ap (find_header number) M.headers ∙ without_else M.number number w.headers a)
  ]
  carried_memory ms o (Moved M) n h = elim (cases_eq number M.number) [
    | inl is ↦ elim M.memory [
      | inl own ↦ absurd (n (M.now).state.owner (M.moves ∙ (ap (λ (k : ℕ). moved k (With (M.was).state.owner) (With (M.now).state.owner)) (sym is)
          ∙ ap (λ (x : Owner). moved number (With x) (With (M.now).state.owner)) own)))
      | inr e ↦
          let was : memory_at number w.headers ≡ Some (memory_of M.was) = ap (λ (k : ℕ). memory_at k w.headers) is ∙ ap (option_map memory_of) (M.replaced).was in
          let now : memory_at number v.headers ≡ Some (memory_of M.now) = ap (λ (k : ℕ). memory_at k v.headers) is ∙ ap (option_map memory_of) (M.replaced).here in
          as_before (now ∙ (ap (λ (m : Option (List ℕ)). Some m) e ∙ sym was))
    ]
    | inr a ↦ found_before ((M.replaced).others number a)
  ]
  carried_memory ms o (Several M) n h = elim ((M.headers).each number) [
    | inl L ↦ found_before L.0
    | inr P ↦ elim P.memory [
      | inl own ↦ absurd (h own.0 (P.now).state.owner (P.moves ∙ ap (λ (x : Owner). moved number (With x) (With (P.now).state.owner)) own.1))
      | inr e ↦
          let was : memory_at number w.headers ≡ Some (memory_of P.was) = ap (option_map memory_of) P.found in
          let now : memory_at number v.headers ≡ Some (memory_of P.now) = ap (option_map memory_of) P.here in
          as_before (now ∙ (ap (λ (m : Option (List ℕ)). Some m) e ∙ sym was))
    ]
  ]

-- a header that goes from the client to another owner is handed in
hands_by : (w : World) (a : Act) (r : Reply) (number : ℕ) (to : Owner) → moves w a r ≡ moved number client_stop (With to) → taken_in a r ≡ Some number → number_in a r ≡ Some number
hands_by w (acts.FreeBuffer h port header) (acts.Freed (Ok memory)) number to e t =
    let k : Unmade ≡ With to = ap (λ (y : Move). y.to) (first_move (record { header = header; from = client_stop; to = Unmade }) (record { header = number; from = client_stop; to = With to }) e) in
    absurd cc
hands_by w (acts.EmptyThisBuffer h port header) (acts.Plain (Ok done)) number to e t = t
hands_by w (acts.FillThisBuffer h port header) (acts.Plain (Ok done)) number to e t = t
hands_by w _ _ number to e t = absurd cc

-- ---- steps

outcome_memory : (w v : World) (t : Turn) (number : ℕ) (before after : Option (List ℕ)) → Sound w → Outcome w t v → HasMemory w number before → HasMemory v number after
    → ((to : Owner) → t.moves ≢ moved number client_stop (With to)) → ((k : ℕ) (to : Owner) → trail number t.moves ≢ moved number (With (owners.Work k)) (With to)) → after ≡ before
outcome_memory w v t number before after S (Nothing e m) H K n h = found_before w v number before after H K (ap (λ (x : World). find_header number x.headers) e)
outcome_memory w v t number before after S (Done C E) H K n h =
    let once = carried_once w t.after t.moves S.once (parts_of w S).below E.carried in
    let back = (times_settle C.steps t.after v C.by_steps once).memories number in
    carried_memory w t.after number before after H (sym back ∙ K) t.moves S.once E.carried n h

-- an act other than a finish fills no memory, and moves no header from a work
other_memory : (w : World) (a : Act) (r : Reply) (v : World) (number : ℕ) (before after : Option (List ℕ)) → Sound w → Meets w a → Step w a r v → HasMemory w number before → HasMemory v number after
    → number_in a r ≢ Some number → ((k : ℕ) (to : Owner) → trail number (moves w a r) ≢ moved number (With (owners.Work k)) (With to)) → after ≡ before
other_memory w a r v number before after S M h K L n o =
    outcome_memory w v (turn w a r) number before after S (step_comes w a r v S M h) K L (λ to e. n (hands_by w a r number to e (takes w a r number (With to) e))) o

pub steps_memory : (w : World) (a : Act) (r : Reply) (v : World) (number : ℕ) (before after : Option (List ℕ)) → Sound w → Meets w a → Step w a r v → HasMemory w number before → HasMemory v number after
    → number_in a r ≢ Some number → after ≡ with_front (filled_in w a number) before
steps_memory w (acts.Finish done) acts.Finished v number before after S M h K L n = finished_memory w done v number before after S M h K L
steps_memory w a r v number before after S M h K L n = is_unfilled w a r v number before after tt h (other_memory w a r v number before after S M h K L n (λ k to e. from_no_work w a r number k (With to) tt e))

pub closing_memory : (w v : World) (number : ℕ) (memory : Option (List ℕ)) → Sound w → ClosesTo w v → HasMemory w number memory → HasMemory v number memory
closing_memory w v number memory S C H = closed_memory w v number memory S.once C H

-- ---- a header that is handed in

put_memory : (w v : World) (key : PortKey) (number : ℕ) (load : Load) (s : HeaderState) → Sound w → (look w).headers.header number ≡ Some s → ClosesTo (with_todo key number (loaded load) w) v → HasMemory v number load.memory
put_memory w v key number load s S e C =
    let r = found_state number w s e in
    let R = replaced_put key TodoBack (loaded load) (λ x. refl) number w.headers r.0 S.once r.1 in
    closed_memory (with_todo key number (loaded load) w) v number load.memory R.once C (ap (option_map memory_of) R.here)

emptied : (w : World) (h : Handle) (port : ℕ) (header : Held) (done : Unit {0}) (v : World) → Sound w → Step w (acts.EmptyThisBuffer h port header) (acts.Plain (Ok done)) v → HasMemory v header.number header.memory
emptied w h port header done v S a =
    let x = resolved plain w v h done _ a in
    let s = there_is ((look w).headers.header header.number) _ x.3 in
    let p = there_is (port_of x.1 port) _ (accepted (empty_refusal x.1 (port_of x.1 port) s.0 header.content) done w v _ s.2) in
    put_memory w v (p.0).key header.number (load_in header) s.0 S s.1 p.2

filled : (w : World) (h : Handle) (port : ℕ) (header : Held) (done : Unit {0}) (v : World) → Sound w → Step w (acts.FillThisBuffer h port header) (acts.Plain (Ok done)) v → HasMemory v header.number header.memory
filled w h port header done v S a =
    let x = resolved plain w v h done _ a in
    let s = there_is ((look w).headers.header header.number) _ x.3 in
    let p = there_is (port_of x.1 port) _ (accepted (fill_refusal x.1 (port_of x.1 port) s.0) done w v _ s.2) in
    put_memory w v (p.0).key header.number (unloaded (load_in header)) s.0 S s.1 p.2

pub steps_hand_in : (w : World) (a : Act) (r : Reply) (v : World) (header : Held) → Sound w → Step w a r v → handed_in a r ≡ Some header → HasMemory v header.number header.memory
steps_hand_in w (acts.EmptyThisBuffer h port x) (acts.Plain (Ok done)) v header S s e = let q : x ≡ header = cc in subst (λ (k : Held). HasMemory v k.number k.memory) q (emptied w h port x done v S s)
steps_hand_in w (acts.FillThisBuffer h port x) (acts.Plain (Ok done)) v header S s e = let q : x ≡ header = cc in subst (λ (k : Held). HasMemory v k.number k.memory) q (filled w h port x done v S s)
steps_hand_in w _ _ v header S s e = absurd cc

-- ---- runs

-- a header that is there after a step, and was made before it, was there before it
was_there : (w : World) (a : Act) (r : Reply) (v : World) (number : ℕ) (memory : Option (List ℕ)) → Sound w → Meets w a → Step w a r v → number < w.made → HasMemory v number memory → (m : Option (List ℕ)) × HasMemory w number m
was_there w a r v number memory S M h l K =
    let x = has_memory number v memory (find_header number v.headers) refl K in
    let W = made_for_step w a r v number (x.0).state S M h (λ k. let b : w.made < w.made = subst (λ (n : ℕ). n < w.made) k l in absurd (omega arith)) (ap (option_map state_of) x.1) in
    let r = found_state number w W.was W.there in
    (memory_of r.0, ap (option_map memory_of) r.1)

run_was_there : (w v : World) (xs : List (Act × Reply)) (number : ℕ) (memory : Option (List ℕ)) → Sound w → Run w xs v → number < w.made → HasMemory v number memory → (m : Option (List ℕ)) × HasMemory w number m
run_was_there w v [] number memory S e l K = (memory, subst (λ (x : World). HasMemory x number memory) e K)
run_was_there w v (x ∷ xs) number memory S (mid, M, h, more) l K =
    let g = made_grows w x.0 x.1 mid S M h in
    let m = run_was_there mid v xs number memory (sound_step w mid x.0 x.1 M h S) more (omega (arith, l, g)) K in
    was_there w x.0 x.1 mid number m.0 S M h l m.1

pub runs_memory : (w v : World) (xs : List (Act × Reply)) (number : ℕ) (before after : Option (List ℕ)) → Sound w → Run w xs v → HasMemory w number before → HasMemory v number after
    → All (λ x. number_in x.0 x.1 ≢ Some number) xs → RunFills w xs v number before after
runs_memory w v [] number before after S e H K A = (e, found_before w v number before after H K (ap (λ (x : World). find_header number x.headers) e))
runs_memory w v (x ∷ xs) number before after S (mid, M, h, more) H K A =
    let Z = sound_step w mid x.0 x.1 M h S in
    let r = has_memory number w before (find_header number w.headers) refl H in
    let l : number < w.made = (parts_of w S).below number r.0 r.1 in
    let g = made_grows w x.0 x.1 mid S M h in
    let m = run_was_there mid v xs number after Z more (omega (arith, l, g)) K in
    let e = steps_memory w x.0 x.1 mid number before m.0 S M h H m.1 (All-head (λ y. number_in y.0 y.1 ≢ Some number) x xs A) in
    let F = runs_memory mid v xs number m.0 after Z more m.1 K (All-tail (λ y. number_in y.0 y.1 ≢ Some number) x xs A) in
    (mid, h, subst (λ (o : Option (List ℕ)). RunFills mid xs v number o after) e F)

-- ---- headers that no work brings back

unfilled : (w : World) (number : ℕ) (a : Act) → brings number a ≡ false → filled_in w a number ≡ None
unfilled w number (acts.Finish done) h = by_component (component_numbered done.component w)
  where
    none_of_it : (c : Component) (xs : List CarriedHeader) → list_any (λ x. nat_eq x.header.number number) xs ≡ false → content_of c xs number ≡ None
    none_of_it c [] e = refl
    none_of_it c (x ∷ xs) e = let p = not_either (nat_eq x.header.number number) (list_any (λ y. nat_eq y.header.number number) xs) e in rw p.0 (none_of_it c xs p.1)

    by_component : (o : Option Component) → filled_by o done number ≡ None
    by_component None = refl
    by_component (Some c) = either (is_some done.fault) (λ t. rw t refl) (λ f. rw f (none_of_it c done.headers h))
unfilled w number _ h = refl

pub unfilled_memory : (w v : World) (xs : List (Act × Reply)) (number : ℕ) (before after : Option (List ℕ)) → RunFills w xs v number before after → All (λ x. brings number x.0 ≡ false) xs → after ≡ before
unfilled_memory w v [] number before after F A = F.1
unfilled_memory w v (x ∷ xs) number before after F A =
    let e = unfilled w number x.0 (All-head (λ y. brings number y.0 ≡ false) x xs A) in
    let R : RunFills F.0 xs v number before after = rw e at F.2 in
    unfilled_memory F.0 v xs number before after R (All-tail (λ y. brings number y.0 ≡ false) x xs A)

-- ---- from the hand-in to the note

run_grows : (w v : World) (xs : List (Act × Reply)) → Sound w → Run w xs v → w.made ≤ v.made
run_grows w v [] S e = let k : v.made ≡ w.made = ap (λ (x : World). x.made) e in omega (arith, k)
run_grows w v (x ∷ xs) S (mid, M, h, more) =
    let g = made_grows w x.0 x.1 mid S M h in
    let i = run_grows mid v xs (sound_step w mid x.0 x.1 M h S) more in
    omega (arith, g, i)

-- an act that gives a header hands none in
gives_hand_none : (a : Act) (r : Reply) (back : Held) (number : ℕ) → given_out a r ≡ Some back → number_in a r ≢ Some number
gives_hand_none (acts.EmptyThisBuffer h port header) (acts.Plain (Ok done)) back number e k = absurd cc
gives_hand_none (acts.FillThisBuffer h port header) (acts.Plain (Ok done)) back number e k = absurd cc
gives_hand_none _ _ back number e k = absurd cc

gives_fill_none : (w : World) (a : Act) (r : Reply) (back : Held) (number : ℕ) → given_out a r ≡ Some back → filled_in w a number ≡ None
gives_fill_none w (acts.Finish done) r back number e = absurd cc
gives_fill_none w _ r back number e = refl

comes_back : (w : World) (xs : List (Act × Reply)) (v : World) (b : Act) (s : Reply) (z : World) (number : ℕ) (before : Option (List ℕ)) (back : Held) → Sound w → HasMemory w number before
    → Run w xs v → All (λ x. number_in x.0 x.1 ≢ Some number) xs → Meets v b → Step v b s z → given_out b s ≡ Some back → back.number ≡ number → RunFills w xs v number before back.memory
comes_back w xs v b s z number before back S H R A M h e n =
    let Z = sound_run_of w v xs R S in
    let K : HasMemory z number back.memory = subst (λ (k : ℕ). HasMemory z k back.memory) n (steps_give v b s z back Z M h e).memory in
    let r = has_memory number w before (find_header number w.headers) refl H in
    let l : number < w.made = (parts_of w S).below number r.0 r.1 in
    let g = run_grows w v xs S R in
    let m = was_there v b s z number back.memory Z M h (omega (arith, l, g)) K in
    let same : back.memory ≡ m.0 = steps_memory v b s z number m.0 back.memory Z M h m.1 K (gives_hand_none b s back number e) ∙ ap (λ (o : Option (List ℕ)). with_front o m.0) (gives_fill_none v b s back number e) in
    subst (λ (o : Option (List ℕ)). RunFills w xs v number before o) (sym same) (runs_memory w v xs number before m.0 S R H m.1 A)

pub back_memory : (u : World) (a : Act) (r : Reply) (w : World) (xs : List (Act × Reply)) (v : World) (b : Act) (s : Reply) (z : World) (header back : Held) → Sound u → Meets u a → Step u a r w → handed_in a r ≡ Some header
    → Run w xs v → All (λ x. number_in x.0 x.1 ≢ Some header.number) xs → Meets v b → Step v b s z → given_out b s ≡ Some back → back.number ≡ header.number → RunFills w xs v header.number header.memory back.memory
back_memory u a r w xs v b s z header back S N i f R A M h e n =
    comes_back w xs v b s z header.number header.memory back (sound_step u w a r N i S) (steps_hand_in u a r w header S i f) R A M h e n
