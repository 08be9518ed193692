-- A script has one text, whatever slots its handles got.
use Rattle.std.proofs.Common.{◌≡◌, ◌≢◌, ℕ, ◌+◌, ◌<◌, ◌≤◌, Bool, true, false, nat_eq, cond, eq-eqb, ne_eqb, arith, List, [], ◌∷◌, ◌++◌, append_assoc, take, drop, take-append-drop, take-add, find, Option, Some, None, option_map, unwrap_or, refl, sym, ◌∙◌, ap, subst, codes}
use Rattle.std.proofs.lemmas.Bool.Decides.{nat_tests}
use Rattle.std.specs.Prelude.{MatchOption, Result, Ok, Err}
use Rattle.omx_types.specs.declared.handle.Handle.{Handle}
use Rattle.omx_types.specs.declared.error.OmxError.{OmxError}
use Rattle.omx_types.specs.declared.error.CallError.{CallError}
use Rattle.il_machine.specs.declared.answer.Progress.{Progress}
use Rattle.il_machine.specs.Acts.{Act, Reply}
use Rattle.il_machine.specs.Acts as acts
use Rattle.il_machine.specs.Buffers.{Held}
use Rattle.il_machine.specs.Notes.{TakenEmpty, TakenEvent, TakenFilled, Took, TookBusy, TookNone, TookNote}
use Rattle.il_machine.specs.Run.{Run}
use Rattle.il_machine.specs.Sound.{Sound}
use Rattle.il_machine.specs.World.{World}
use Rattle.machine_laws.proofs.Finding.{either}
use Rattle.machine_laws.proofs.Steps.{sound_none, sound_step}
use Rattle.act_text.specs.declared.act.TextAct.{TextAct}
use Rattle.act_text.specs.declared.act.TextAct.TheVariants as lines
use Rattle.act_text.specs.declared.name.PortName.{PortName}
use Rattle.script_lang.specs.declared.form.TraceForm.{TraceForm}
use Rattle.script_lang.specs.declared.form.TraceForm.TheVariants as forms
use Rattle.script_lang.specs.declared.form.TraceLine.{TraceLine}
use Rattle.script_lang.specs.declared.script.Script.{Script}
use Rattle.script_lang.specs.declared.script.Script.TheVariants.{Play, Trace}
use Rattle.slot_laws.specs.Seating.{Seating, moved, moved_handle}
use Rattle.slot_laws.proofs.Alike.{last_number}
use Rattle.slot_laws.proofs.Growth.{AreTold, BringsNoFile, Grows, get_grows, step_grows}
use Rattle.trace_run.specs.declared.names.NamedComponent.{NamedComponent}
use Rattle.trace_run.specs.Lines.{ActLine, Answered, Entry, EtbLine, IsAct, Line, taking, work_out}
use Rattle.trace_run.specs.Naming.{Moment, Names, after_handing, after_taking, has_number, in_hand, no_handle, with_component, with_header}
use Rattle.trace_run.specs.Replying.{LineReply}
use Rattle.trace_run.specs.OneTrace.{Begins, HasOneText}
use Rattle.trace_run.specs.Traced.{IsTraced, IsTracedTo, Lead, beginning, line_text}
use Rattle.trace_run.proofs.AlikeLines.{AreSeated, line_alike, only}
use Rattle.trace_run.proofs.MovedNames.{moved_moment, moved_names}

-- ---- every entry of a list

abbrev Each : {X : Type 0} → (X → Type 0) → List X → Type 0
Each P [] = Unit {0}
Each P (x ∷ xs) = P x × Each P xs

each_front : {X : Type 0} (P : X → Type 0) (xs ys : List X) → Each P (xs ++ ys) → Each P xs
each_front P [] ys e = tt
each_front P (x ∷ xs) ys (this, rest) = (this, each_front P xs ys rest)

each_last : {X : Type 0} (P : X → Type 0) (xs : List X) (y : X) → Each P (xs ++ y ∷ []) → P y
each_last P [] y (this, rest) = this
each_last P (x ∷ xs) y (this, rest) = each_last P xs y rest

each_more : {X : Type 0} (P : X → Type 0) (xs : List X) (y : X) → Each P xs → P y → Each P (xs ++ y ∷ [])
each_more P [] y e p = (p, tt)
each_more P (x ∷ xs) y (this, rest) p = (this, each_more P xs y rest p)

each_so : {X : Type 0} (P Q : X → Type 0) (xs : List X) → ((x : X) → P x → Q x) → Each P xs → Each Q xs
each_so P Q [] so e = tt
each_so P Q (x ∷ xs) so (this, rest) = (so x this, each_so P Q xs so rest)

-- ---- the handles that a script got have numbers of their own

abbrev IsBelow : ℕ → NamedComponent → Type 0
IsBelow number e = e.handle.generation < number

abbrev IsFirst : List NamedComponent → NamedComponent → Type 0
IsFirst cs e = find (has_number e.handle.generation) cs ≡ Some e

found_still : (number : ℕ) (cs ds : List NamedComponent) (e : NamedComponent) → find (has_number number) cs ≡ Some e → find (has_number number) (cs ++ ds) ≡ Some e
found_still number [] ds e is = absurd cc
found_still number (c ∷ cs) ds e is = either (has_number number c)
    (λ t. let head : find (has_number number) (c ∷ cs) ≡ Some c = rw t refl in rw t (sym head ∙ is))
    (λ n. let rest : find (has_number number) (c ∷ cs) ≡ find (has_number number) cs = rw n refl in rw n (found_still number cs ds e (sym rest ∙ is)))

found_new : (cs : List NamedComponent) (e : NamedComponent) → Each (IsBelow e.handle.generation) cs → find (has_number e.handle.generation) (cs ++ e ∷ []) ≡ Some e
found_new [] e below = let is : nat_eq e.handle.generation e.handle.generation ≡ true = eq-eqb _ _ refl in rw is refl
found_new (c ∷ cs) e (this, rest) =
    let other : nat_eq c.handle.generation e.handle.generation ≡ false = ne_eqb _ _ (λ same. absurd (omega (arith, this, same))) in
    rw other (found_new cs e rest)

-- the world is sound, each file tells what it gives, and the handles of the names have numbers of their own
record IsWell (at : Moment) : Type 0 where
  sound : Sound at.world
  told : AreTold (at.world).streams
  below : Each (IsBelow (at.world).numbered) (at.names).components
  own : Each (IsFirst (at.names).components) (at.names).components

-- ---- what a line leaves

abbrev BringNoFile : List Entry → Type 0
BringNoFile [] = Unit {0}
BringNoFile (x ∷ xs) = BringsNoFile x.0 × BringNoFile xs

run_well : (w v : World) (es : List Entry) → Run w es v → BringNoFile es → Sound w → Sound v × Grows w v
run_well w v [] e none S = (subst Sound (sym e) S, record { told = λ t. subst (λ (x : World). AreTold x.streams) (sym e) t; more = (let same = ap (λ (x : World). x.numbered) e in omega (arith, same)) })
run_well w v (x ∷ es) (mid, M, step, rest) (none, more) S =
    let first = step_grows w x.0 x.1 mid S M step none in
    let then = run_well mid v es rest more (sound_step w mid x.0 x.1 M step S) in
    (then.0, record { told = λ t. then.1.told (first.told t); more = (let a = first.more in let b = then.1.more in omega (arith, a, b)) })

one_file : (es : List Entry) (a : Act) (r : Reply) → es ≡ (a, r) ∷ [] → BringsNoFile a → BringNoFile es
one_file es a r e none = subst BringNoFile (sym e) (none, tt)

no_file : (es : List Entry) → es ≡ [] → BringNoFile es
no_file es e = subst BringNoFile (sym e) tt

taking_file : (h : Handle) (r : Result Took OmxError) (p : Progress) → BringNoFile (taking h r p)
taking_file h (Ok (TookNote taken)) p = (tt, (tt, tt))
taking_file h (Ok TookNone) p = (tt, tt)
taking_file h (Ok TookBusy) p = (tt, tt)
taking_file h (Err error) p = (tt, tt)

there_or : {X : Type 0} (o : Option X) (No : Type 0) (Then : X → Type 0) (Goal : Type 0) → (No → Goal) → ((x : X) → Then x → Goal) → MatchOption o No Then → Goal
there_or None No Then Goal none_ some_ m = none_ m
there_or (Some x) No Then Goal none_ some_ m = some_ x m

act_file : (at : Moment) (act : TextAct) (es : List Entry) (reply : LineReply) (names : Names) → ActLine at act es reply names → BringNoFile es
act_file at (lines.Take component) es reply names a = subst BringNoFile (sym a.2.both) (taking_file _ a.0 a.1)
act_file at (lines.Finish component) es reply names a = there_or (work_out at component) _ _ (BringNoFile es) (λ n. no_file es n.none) (λ work x. one_file es (acts.Finish x.0) acts.Finished x.1.one tt) a
act_file at (lines.End component) es reply names a = no_file es a.none
act_file at _ es reply names a = one_file es _ a.0 a.1.one tt

etb_file : (long : Bool) (at : Moment) (name : List ℕ) (port : PortName) (h : Held) (es : List Entry) (reply : LineReply) (names : Names) → EtbLine long at name port h es reply names → BringNoFile es
etb_file true at name port h es reply names a = no_file es a.none
etb_file false at name port h es reply names a = one_file es _ _ a.1.one tt

line_file : (at : Moment) (form : TraceForm) (es : List Entry) (reply : LineReply) (names : Names) → Line at form es reply names → BringNoFile es
line_file at (forms.Act act) es reply names a = act_file at act es reply names a
line_file at (forms.Get component kind) es reply names a = one_file es _ _ a.1.one tt
line_file at (forms.Alloc header port) es reply names a = one_file es _ _ a.1.one tt
line_file at (forms.UseBuf header port size) es reply names a = one_file es _ _ a.1.one tt
line_file at (forms.FreeBuf header port) es reply names a = there_or (in_hand at.names header) _ _ (BringNoFile es) (λ n. no_file es n.none) (λ h x. one_file es _ _ x.1.one tt) a
line_file at (forms.Etb header port bytes eos) es reply names a = there_or (in_hand at.names header) _ _ (BringNoFile es) (λ n. no_file es n.none) (λ h x. etb_file _ at header port _ es reply names x) a
line_file at (forms.Ftb header port) es reply names a = there_or (in_hand at.names header) _ _ (BringNoFile es) (λ n. no_file es n.none) (λ h x. one_file es _ _ x.1.one tt) a

-- ---- which components have names then

same_names : {N : Names} (names : Names) → names ≡ N → names.components ≡ N.components
same_names names e = ap (λ (n : Names). n.components) e

handing_keeps : {T E : Type 0} (name : List ℕ) (h : Held) (r : Result T E) (names : Names) → (after_handing name h r names).components ≡ names.components
handing_keeps name h (Ok x) names = refl
handing_keeps name h (Err error) names = refl

header_keeps : {E : Type 0} (name : List ℕ) (r : Result Held E) (names : Names) → (with_header name r names).components ≡ names.components
header_keeps name (Ok header) names = refl
header_keeps name (Err error) names = refl

taking_keeps : {E : Type 0} (r : Result Took E) (names : Names) → (after_taking r names).components ≡ names.components
taking_keeps (Ok (TookNote (TakenEvent event))) names = refl
taking_keeps (Ok (TookNote (TakenEmpty header))) names = refl
taking_keeps (Ok (TookNote (TakenFilled header))) names = refl
taking_keeps (Ok TookNone) names = refl
taking_keeps (Ok TookBusy) names = refl
taking_keeps (Err error) names = refl

-- none came, or one with the next number
data Comes (cs ds : List NamedComponent) (w v : World) : Type 0 where
  Stays : ds ≡ cs → Comes cs ds w v
  One : (e : NamedComponent) → ds ≡ cs ++ e ∷ [] → e.handle.generation ≡ w.numbered → w.numbered < v.numbered → Comes cs ds w v

act_keeps : (at : Moment) (act : TextAct) (es : List Entry) (reply : LineReply) (names : Names) → ActLine at act es reply names → names.components ≡ (at.names).components
act_keeps at (lines.Take component) es reply names a = same_names names a.3 ∙ taking_keeps a.0 at.names
act_keeps at (lines.Finish component) es reply names a = there_or (work_out at component) _ _ (names.components ≡ (at.names).components) (λ n. same_names names n.same) (λ work x. same_names names x.2) a
act_keeps at (lines.End component) es reply names a = same_names names a.same
act_keeps at _ es reply names a = same_names names a.2

etb_keeps : (long : Bool) (at : Moment) (name : List ℕ) (port : PortName) (h : Held) (es : List Entry) (reply : LineReply) (names : Names) → EtbLine long at name port h es reply names
    → names.components ≡ (at.names).components
etb_keeps true at name port h es reply names a = same_names names a.same
etb_keeps false at name port h es reply names a = same_names names a.2 ∙ handing_keeps name h a.0 at.names

got : (at : Moment) (component kind : List ℕ) (es : List Entry) (reply : LineReply) (next : Moment) (r : Result Handle CallError) → Run at.world es next.world
    → IsAct at.names (acts.GetHandle kind) (acts.Got r) es reply → next.names ≡ with_component component r at.names → Comes (at.names).components (next.names).components at.world next.world
got at component kind es reply next (Ok h) run A e =
    let one = only at.world next.world (acts.GetHandle kind) (acts.Got (Ok h)) (subst (λ (x : List Entry). Run at.world x next.world) A.one run) in
    let is = get_grows at.world kind h next.world one.1 in
    One (record { name = component; handle = h }) (same_names next.names e) is.0 is.1
got at component kind es reply next (Err error) run A e = Stays (same_names next.names e)

line_comes : (at : Moment) (form : TraceForm) (es : List Entry) (reply : LineReply) (next : Moment) → Run at.world es next.world → Line at form es reply next.names
    → Comes (at.names).components (next.names).components at.world next.world
line_comes at (forms.Act act) es reply next run a = Stays (act_keeps at act es reply next.names a)
line_comes at (forms.Get component kind) es reply next run a = got at component kind es reply next a.0 run a.1 a.2
line_comes at (forms.Alloc header port) es reply next run a = Stays (same_names next.names a.2 ∙ header_keeps header a.0 at.names)
line_comes at (forms.UseBuf header port size) es reply next run a = Stays (same_names next.names a.2 ∙ header_keeps header a.0 at.names)
line_comes at (forms.FreeBuf header port) es reply next run a =
    Stays (there_or (in_hand at.names header) _ _ ((next.names).components ≡ (at.names).components) (λ n. same_names next.names n.same) (λ h x. same_names next.names x.2 ∙ handing_keeps header h x.0 at.names) a)
line_comes at (forms.Etb header port bytes eos) es reply next run a =
    Stays (there_or (in_hand at.names header) _ _ ((next.names).components ≡ (at.names).components) (λ n. same_names next.names n.same) (λ h x. etb_keeps _ at header port _ es reply next.names x) a)
line_comes at (forms.Ftb header port) es reply next run a =
    Stays (there_or (in_hand at.names header) _ _ ((next.names).components ≡ (at.names).components) (λ n. same_names next.names n.same) (λ h x. same_names next.names x.2 ∙ handing_keeps header h x.0 at.names) a)

-- ---- a line leads from what is well to what is

below_more : (n m : ℕ) (cs : List NamedComponent) → n ≤ m → Each (IsBelow n) cs → Each (IsBelow m) cs
below_more n m cs le e = each_so (IsBelow n) (IsBelow m) cs (λ x lt. omega (arith, lt, le)) e

comes_below : (cs ds : List NamedComponent) (w v : World) → w.numbered ≤ v.numbered → Comes cs ds w v → Each (IsBelow w.numbered) cs → Each (IsBelow v.numbered) ds
comes_below cs ds w v more (Stays is) e = subst (Each (IsBelow v.numbered)) (sym is) (below_more w.numbered v.numbered cs more e)
comes_below cs ds w v more (One x is number few) e =
    subst (Each (IsBelow v.numbered)) (sym is) (each_more (IsBelow v.numbered) cs x (below_more w.numbered v.numbered cs more e) (omega (arith, number, few)))

comes_own : (cs ds : List NamedComponent) (w v : World) → Comes cs ds w v → Each (IsBelow w.numbered) cs → Each (IsFirst cs) cs → Each (IsFirst ds) ds
comes_own cs ds w v (Stays is) b e = subst (λ (l : List NamedComponent). Each (IsFirst l) l) (sym is) e
comes_own cs ds w v (One x is number few) b e =
    subst (λ (l : List NamedComponent). Each (IsFirst l) l) (sym is)
    (each_more (IsFirst (cs ++ x ∷ [])) cs x
    (each_so (IsFirst cs) (IsFirst (cs ++ x ∷ [])) cs (λ y first. found_still y.handle.generation cs (x ∷ []) y first) e)
    (found_new cs x (subst (λ (n : ℕ). Each (IsBelow n) cs) (sym number) b)))

line_well : (at : Moment) (form : TraceForm) (reply : LineReply) (next : Moment) → IsWell at → Answered at form reply next → IsWell next
line_well at form reply next W A =
    let R = run_well at.world next.world A.entries A.run (line_file at form A.entries reply next.names A.says) W.sound in
    let C = line_comes at form A.entries reply next A.run A.says in
    record {
      sound = R.0;
      told = R.1.told W.told;
      below = comes_below _ _ at.world next.world R.1.more C W.below;
      own = comes_own _ _ at.world next.world C W.below W.own;
    }

lead_well : (number : ℕ) (at : Moment) (ls : List TraceLine) (text : List ℕ) (last : Moment) → IsWell at → Lead number at ls text last → IsWell last
lead_well number at [] text last W L = subst IsWell (sym L.1) W
lead_well number at (l ∷ ls) text last W L = lead_well (number + 1) L.1 ls L.2 last (line_well at l.form L.0 L.1 W L.3) L.4

-- ---- which slot each handle got

abbrev Fits : (ℕ → ℕ) → NamedComponent → Type 0
Fits g e = e.handle.slot ≡ g e.handle.generation

-- by the first of the names with the number
abbrev slot_in : List NamedComponent → ℕ → ℕ
slot_in cs number = unwrap_or (option_map (λ entry. entry.handle.slot) (find (has_number number) cs)) 0

fits_in : (cs ds : List NamedComponent) → Each (IsFirst cs) ds → Each (Fits (slot_in cs)) ds
fits_in cs ds e = each_so (IsFirst cs) (Fits (slot_in cs)) ds (λ x first. sym (ap (λ (o : Option NamedComponent). unwrap_or (option_map (λ entry. entry.handle.slot) o) 0) first)) e

comes_fit : (g : ℕ → ℕ) (cs ds : List NamedComponent) (w v : World) → Comes cs ds w v → Each (Fits g) ds → Each (Fits g) cs
comes_fit g cs ds w v (Stays is) e = subst (Each (Fits g)) is e
comes_fit g cs ds w v (One x is number few) e = each_front (Fits g) cs (x ∷ []) (subst (Each (Fits g)) is e)

-- what the last names fit, all names do
lead_fits : (g : ℕ → ℕ) (number : ℕ) (at : Moment) (ls : List TraceLine) (text : List ℕ) (last : Moment) → Lead number at ls text last → Each (Fits g) (last.names).components → Each (Fits g) (at.names).components
lead_fits g number at [] text last L e = subst (λ (m : Moment). Each (Fits g) (m.names).components) L.1 e
lead_fits g number at (l ∷ ls) text last L e =
    comes_fit g (at.names).components ((L.1).names).components at.world (L.1).world (line_comes at l.form (L.3).entries L.0 L.1 (L.3).run (L.3).says)
    (lead_fits g (number + 1) L.1 ls L.2 last L.4 e)

-- ---- each slot stands for the other's

abbrev swapped : ℕ → ℕ → ℕ → ℕ
swapped a b s = cond (nat_eq s a) b (cond (nat_eq s b) a s)

swapped_apart : (a b s t : ℕ) → nat_eq (swapped a b s) (swapped a b t) ≡ nat_eq s t
swapped_apart a b s t = grind (arith, nat_tests)

abbrev slot_for : (ℕ → ℕ) → (ℕ → ℕ) → ℕ → ℕ → ℕ
slot_for g h generation s = cond (nat_eq generation last_number) s (swapped (g generation) (h generation) s)

slot_apart : (g h : ℕ → ℕ) (generation s t : ℕ) → nat_eq (slot_for g h generation s) (slot_for g h generation t) ≡ nat_eq s t
slot_apart g h generation s t = either (nat_eq generation last_number) (λ e. rw e refl) (λ e. rw e (swapped_apart (g generation) (h generation) s t))

abbrev seating : ℕ → (ℕ → ℕ) → (ℕ → ℕ) → Seating
seating key g h = record { key = key; slot = slot_for g h; apart = slot_apart g h }

-- the handles of one generation, as each telling got them
each_other : (key : ℕ) (g h : ℕ → ℕ) (x y : Handle) → x.generation ≡ y.generation → x.generation ≢ last_number → x.slot ≡ g x.generation → y.slot ≡ h y.generation
    → moved_handle (seating key g h) x ≡ y
each_other key g h x y same few a b =
    let other : nat_eq x.generation last_number ≡ false = ne_eqb _ _ few in
    let own : nat_eq x.slot (g x.generation) ≡ true = eq-eqb _ _ a in
    let slot : slot_for g h x.generation x.slot ≡ y.slot = (let to : slot_for g h x.generation x.slot ≡ h x.generation = rw other (rw own refl) in to ∙ (ap h same ∙ sym b)) in
    λ j. record { slot = slot j; generation = same j }

-- ---- two tellings from two such moments

module _ (key : ℕ) (g h : ℕ → ℕ) (nowhere : moved_handle (seating key g h) no_handle ≡ no_handle) where
  line_seated : (at next then : Moment) (form : TraceForm) (reply also : LineReply) (es ds : List Entry) (run : Run at.world es next.world) (other : Run (moved (seating key g h) at.world) ds then.world)
      → (told : AreTold (at.world).streams) → Each (Fits g) (next.names).components → Each (Fits h) (then.names).components → AreSeated (seating key g h) nowhere at told next then reply also es ds run other form
  line_seated at next then (forms.Get component kind) reply also es ds run other told a b =
      λ x y r s e d is too m n few. each_other key g h x y (m ∙ sym n) (λ same. few (sym m ∙ same))
      (each_last (Fits g) (at.names).components (record { name = component; handle = x })
      (subst (Each (Fits g)) (same_names next.names (is ∙ ap (λ (z : Result Handle CallError). with_component component z at.names) e)) a))
      (each_last (Fits h) (moved_names (seating key g h) at.names).components (record { name = component; handle = y })
      (subst (Each (Fits h)) (same_names then.names (too ∙ ap (λ (z : Result Handle CallError). with_component component z (moved_names (seating key g h) at.names)) d)) b))
  line_seated at next then (forms.Act act) reply also es ds run other told a b = tt
  line_seated at next then (forms.Alloc header port) reply also es ds run other told a b = tt
  line_seated at next then (forms.UseBuf header port size) reply also es ds run other told a b = tt
  line_seated at next then (forms.FreeBuf header port) reply also es ds run other told a b = tt
  line_seated at next then (forms.Etb header port bytes eos) reply also es ds run other told a b = tt
  line_seated at next then (forms.Ftb header port) reply also es ds run other told a b = tt

  lead_alike : (number : ℕ) (at : Moment) (ls : List TraceLine) (text other : List ℕ) (last end : Moment) → IsWell at
      → Lead number at ls text last → Lead number (moved_moment (seating key g h) at) ls other end → Each (Fits g) (last.names).components → Each (Fits h) (end.names).components → other ≡ text
  lead_alike number at [] text other last end W L M a b = M.0 ∙ sym L.0
  lead_alike number at (l ∷ ls) text other last end W L M a b =
      let A = L.3 in
      let B = M.3 in
      let G = line_alike (seating key g h) nowhere at W.told L.1 M.1 L.0 M.0 A.entries B.entries A.run B.run l.form
      (line_seated at L.1 M.1 l.form L.0 M.0 A.entries B.entries A.run B.run W.told
      (lead_fits g (number + 1) L.1 ls L.2 last L.4 a) (lead_fits h (number + 1) M.1 ls M.2 end M.4 b)) A.says B.says in
      let more = lead_alike (number + 1) L.1 ls L.2 M.2 last end (line_well at l.form L.0 L.1 W A) L.4
      (subst (λ (m : Moment). Lead (number + 1) m ls M.2 end) G.goes M.4) a b in
      let same = G.same in
      M.5 ∙ ((λ j. line_text number l (same j) ++ more j) ∙ sym L.5)

well_beginning : (key units : ℕ) → IsWell (beginning key units)
well_beginning key units = record { sound = sound_none key units; told = tt; below = tt; own = tt }

one_body : (key also units : ℕ) (ls : List TraceLine) (text other : List ℕ) (last end : Moment) → Lead 1 (beginning key units) ls text last → Lead 1 (beginning also units) ls other end → other ≡ text
one_body key also units ls text other last end L M =
    let one = lead_well 1 (beginning key units) ls text last (well_beginning key units) L in
    let two = lead_well 1 (beginning also units) ls other end (well_beginning also units) M in
    let g = slot_in (last.names).components in
    let h = slot_in (end.names).components in
    lead_alike also g h refl 1 (beginning key units) ls text other last end (well_beginning key units) L M
    (fits_in (last.names).components (last.names).components one.own) (fits_in (end.names).components (end.names).components two.own)

-- ---- the first lines of a telling

record HasFront (number : ℕ) (at : Moment) (ls : List TraceLine) (text : List ℕ) : Type 0 where
  front : List ℕ
  rest : List ℕ
  middle : Moment
  lead : Lead number at ls front middle
  both : text ≡ front ++ rest

lead_front : (number : ℕ) (at : Moment) (ls ms : List TraceLine) (text : List ℕ) (last : Moment) → Lead number at (ls ++ ms) text last → HasFront number at ls text
lead_front number at [] ms text last L = record { front = []; rest = text; middle = at; lead = (refl, refl); both = refl }
lead_front number at (l ∷ ls) ms text last L =
    let F = lead_front (number + 1) L.1 ls ms L.2 last L.4 in
    let this = line_text number l L.0 in
    record {
      front = this ++ F.front;
      rest = F.rest;
      middle = F.middle;
      lead = (L.0, L.1, F.front, L.3, F.lead, refl);
      both = L.5 ∙ (ap (λ (t : List ℕ). this ++ t) F.both ∙ sym (append_assoc this F.front F.rest));
    }

begun_with : (key also units : ℕ) (ls ms : List TraceLine) (text other : List ℕ) (last end : Moment) → Lead 1 (beginning key units) ls text last → Lead 1 (beginning also units) (ls ++ ms) other end
    → Begins text other
begun_with key also units ls ms text other last end L M =
    let F = lead_front 1 (beginning also units) ls ms other end M in
    (F.rest, F.both ∙ ap (λ (t : List ℕ). t ++ F.rest) (one_body key also units ls text F.front last F.middle L F.lead))

-- ---- of two texts of one script

one_trace : (script : Script) (text other : List ℕ) → IsTraced script text → IsTraced script other → other ≡ text
one_trace (Play units parts links) text other a b = absurd a
one_trace (Trace units ls) text other a b = b.4 ∙ (ap (λ (t : List ℕ). t ++ codes "end\n") (one_body a.0 b.0 units ls a.1 b.1 a.2 b.2 a.3 b.3) ∙ sym a.4)

first_lines : (script : Script) (count : ℕ) (text other : List ℕ) → IsTracedTo count script text → IsTraced script other → Begins text other
first_lines (Play units parts links) count text other a b = absurd a
first_lines (Trace units ls) count text other a b =
    let begun = begun_with a.0 b.0 units (take count ls) (drop count ls) text b.1 a.1 b.2 a.2
    (subst (λ (l : List TraceLine). Lead 1 (beginning b.0 units) l b.1 b.2) (sym (take-append-drop count ls)) b.3) in
    (begun.0 ++ codes "end\n", b.4 ∙ (ap (λ (t : List ℕ). t ++ codes "end\n") begun.1 ∙ append_assoc text begun.0 (codes "end\n")))

more_lines : (script : Script) (count more : ℕ) (text other : List ℕ) → IsTracedTo count script text → IsTracedTo (count + more) script other → Begins text other
more_lines (Play units parts links) count more text other a b = absurd a
more_lines (Trace units ls) count more text other a b =
    begun_with a.0 b.0 units (take count ls) (take more (drop count ls)) text other a.1 b.1 a.2
    (subst (λ (l : List TraceLine). Lead 1 (beginning b.0 units) l other b.1) (take-add count more ls) b.2)

pub one_text : (script : Script) → HasOneText script
one_text script = record { whole = one_trace script; front = first_lines script; lines = more_lines script }
