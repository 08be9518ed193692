-- What gates count of a history's works they tell of its log's lines.
use Rattle.std.proofs.Common.{◌≡◌, ◌⊎◌, inl, inr, ℕ, ◌+◌, ◌<◌, ◌≤◌, suc, zero, Bool, true, false, not, cond, nat_eq, ◌&&◌, All, List, [], ◌∷◌, length, count_by, slice_get, Option, Some, None, option_map, map, Ok, Err, refl, sym, ap, ◌∙◌, subst, eqb-true, eq-eqb, arith}
use Rattle.std.specs.List.{filter}
use Rattle.std.specs.Str.{bytes_eq}
use Rattle.std.proofs.lemmas.Bool.{and_parts}
use Rattle.std.proofs.lemmas.List.Elements.{All-head, All-tail}
use Rattle.std.proofs.lemmas.List.Sums.{sum_by-cons}
use Rattle.std.proofs.lemmas.Option.{slice_get-map, slice_get_within}
use Rattle.std.proofs.lemmas.Slice.Eq.{bytes_eq-Decides}
use Rattle.omx_types.specs.declared.command.Command.TheVariants.{StateSet, Flush, PortDisable, PortEnable, MarkBuffer}
use Rattle.omx_types.specs.declared.handle.Handle.{Handle}
use Rattle.omx_types.specs.declared.param.Param.TheVariants as params
use Rattle.part_forms.specs.Kinds.{is_input}
use Rattle.il_machine.specs.Acts.{Act, Reply}
use Rattle.il_machine.specs.Acts as acts
use Rattle.il_machine.specs.Claims.{ClaimedBusy, ClaimedEnded, ClaimedEvents, ClaimedHeld, ClaimedNoData, ClaimedNoRoom, ClaimedNotRunning, ClaimedWork}
use Rattle.il_machine.specs.Run.{Step}
use Rattle.il_machine.specs.World.{Component, World}
use Rattle.act_text.specs.declared.act.TextAct.{TextAct}
use Rattle.act_text.specs.declared.act.TextAct.TheVariants as lines
use Rattle.act_text.specs.declared.reply.TextReply.{TextReply}
use Rattle.act_text.specs.declared.reply.TextReply.TheVariants as texts
use Rattle.script_lang.specs.declared.play_line.PartLine.{PartLine}
use Rattle.play_forms.proofs.Places.{either}
use Rattle.play_forms.specs.Parts.{kind_of}
use Rattle.play_forms.specs.Plans.{PlanValue}
use Rattle.play_plan_laws.specs.Assemblies.{PlayFiles}
use Rattle.play_log.specs.Entries.{Entry, is_unprinted, printed, step_of}
use Rattle.play_log.specs.Lines.{LogLine}
use Rattle.play_log.specs.Naming.{NameAll}
use Rattle.play_log.specs.Saying.{Of, Says, SaysAct, SaysReply, key, port_at}
use Rattle.play_log.specs.Scenes.{HaveOwnNames, Scene, scene_of}
use Rattle.play_log.proofs.Players.{some_same}
use Rattle.play_result_laws.specs.Asked.{is_asked, is_unasked}
use Rattle.play_result_laws.specs.Gates.{CountsMeet, CountsTell, GatesMeet, GatesTell, claims_by, is_claim_by, is_claim_of, is_work_by, is_work_of, works_by}
use Rattle.play_result_laws.specs.Passes.{IsPassOf}
use Rattle.play_result_laws.specs.Worlds.{IsOpening}

-- ---- one more

count_more : {X : Type 0} (p : X → Bool) (x : X) (xs : List X) → count_by p (x ∷ xs) ≡ cond (p x) 1 0 + count_by p xs
count_more p x xs = sum_by-cons (λ y. cond (p y) 1 0) x xs

count_none : {X : Type 0} (p : X → Bool) (x : X) (xs : List X) → p x ≡ false → count_by p (x ∷ xs) ≡ count_by p xs
count_none p x xs fails = (count_more p x xs ∙ ap (λ (b : Bool). cond b 1 0 + count_by p xs) fails) ∙ nothing_more (count_by p xs) where
  nothing_more : (n : ℕ) → 0 + n ≡ n
  nothing_more n = omega arith

-- ---- an act that gives no work

quiet : (number : ℕ) (r : Reply) (s : Scene) (name : List ℕ) (a : Act) (f : PartLine → Handle → Act) → ((part : PartLine) (h : Handle) → is_work_of number (f part h) r ≡ false) → Of s name (λ part h. a ≡ f part h) → is_work_of number a r ≡ false
quiet number r s name a f none x = subst (λ (b : Act). is_work_of number b r ≡ false) (sym x.4) (none x.1 x.2)

both_quiet : (number : ℕ) (r : Reply) (s : Scene) (name other : List ℕ) (a : Act) (f : Handle → Handle → Act) → ((h k : Handle) → is_work_of number (f h k) r ≡ false) → Of s name (λ part h. Of s other (λ part k. a ≡ f h k)) → is_work_of number a r ≡ false
both_quiet number r s name other a f none x = quiet number r s other a (λ part k. f x.2 k) (λ part k. none x.2 k) x.4

-- ---- one line

module _ (s : Scene) (own : HaveOwnNames s.parts) (numbers : (k : ℕ) (h : Handle) → slice_get s.handles k ≡ Some h → h.generation ≡ k) (place : ℕ) (part : PartLine) (there : slice_get s.parts place ≡ Some part) where
  -- the name is that of the place exactly where the handle has its number
  pub named_at : (component : List ℕ) (x : Of s component (λ other h. Unit {0})) → bytes_eq component part.name ≡ nat_eq (x.2).generation place
  named_at component x = either (bytes_eq component part.name)
      (λ t.
      let same : component ≡ part.name = (bytes_eq-Decides component part.name).0 t in
      let at : x.0 ≡ place = own x.0 place x.1 part (x.3).line there ((x.3).named ∙ same) in
      t ∙ sym (eq-eqb (x.2).generation place (numbers x.0 x.2 (x.3).handle ∙ at)))
      (λ f. f ∙ sym (either (nat_eq (x.2).generation place)
      (λ t.
      let at : x.0 ≡ place = sym (numbers x.0 x.2 (x.3).handle) ∙ eqb-true (x.2).generation place t in
      let other : Some x.1 ≡ Some part = sym (x.3).line ∙ ap (slice_get s.parts) at ∙ there in
      let same : component ≡ part.name = sym (x.3).named ∙ ap (λ (q : PartLine). q.name) (some_same x.1 part other) in
      let yes : bytes_eq component part.name ≡ true = (bytes_eq-Decides component part.name).1 same in
      let clash : true ≡ false = sym yes ∙ f in absurd cc)
      (λ g. g)))

  claim_reply : (w v : World) (component : List ℕ) (h : Handle) (said : TextReply) (r : Reply) → bytes_eq component part.name ≡ nat_eq h.generation place
      → Step w (acts.Claim h) r v → SaysReply s said (acts.Claim h) r → is_claim_of part.name (lines.Claim component) said ≡ is_work_of place (acts.Claim h) r
  claim_reply w v component h said (acts.Claimed (Ok (ClaimedWork work))) mine step e =
      let is : said ≡ texts.Work = some_same said texts.Work (sym e) in
      ap (λ (t : TextReply). is_claim_of part.name (lines.Claim component) t) is ∙ mine
  claim_reply w v component h said (acts.Claimed (Ok ClaimedBusy)) mine step e = absurd cc
  claim_reply w v component h said (acts.Claimed (Ok ClaimedNotRunning)) mine step e = absurd cc
  claim_reply w v component h said (acts.Claimed (Ok ClaimedEnded)) mine step e = absurd cc
  claim_reply w v component h said (acts.Claimed (Ok (ClaimedHeld port))) mine step e = absurd cc
  claim_reply w v component h said (acts.Claimed (Ok (ClaimedNoData port))) mine step e = absurd cc
  claim_reply w v component h said (acts.Claimed (Ok (ClaimedNoRoom port))) mine step e = absurd cc
  claim_reply w v component h said (acts.Claimed (Ok (ClaimedEvents room need))) mine step e = absurd cc
  claim_reply w v component h said (acts.Claimed (Err error)) mine step e =
      let is : said ≡ texts.Error error = some_same said (texts.Error error) (sym e) in
      ap (λ (t : TextReply). is_claim_of part.name (lines.Claim component) t) is
  claim_reply w v component h said _ mine step e = absurd step

  -- it says a claim of this component exactly where that gave a work
  claim_said : (w v : World) (t : TextAct) (a : Act) (said : TextReply) (r : Reply) → SaysAct s t a → Step w a r v → SaysReply s said a r → is_claim_of part.name t said ≡ is_work_of place a r
  claim_said w v (lines.Claim c) a said r x step e =
      let is : a ≡ acts.Claim x.2 = x.4 in
      claim_reply w v c x.2 said r (named_at c (x.0, x.1, x.2, x.3, tt)) (subst (λ (b : Act). Step w b r v) is step) (subst (λ (b : Act). SaysReply s said b r) is e)
      ∙ ap (λ (b : Act). is_work_of place b r) (sym is)
  claim_said w v (lines.Free c) a said r x step e = sym (quiet place r s c a (λ part h. acts.FreeHandle h) (λ part h. refl) x)
  claim_said w v (lines.State c) a said r x step e = sym (quiet place r s c a (λ part h. acts.GetState h) (λ part h. refl) x)
  claim_said w v (lines.Port p) a said r x step e = sym (quiet place r s p.component a (λ part h. acts.PortView h p.index) (λ part h. refl) x)
  claim_said w v (lines.SetPort p format count size) a said r x step e = sym (quiet place r s p.component a (λ part h. acts.SetParameter h (key 1 p.index) (params.Port (record { input = is_input (kind_of part.form) p.index; format = format; count = count; size = size }))) (λ part h. refl) x)
  claim_said w v (lines.SetSupplier p supplier) a said r x step e = sym (quiet place r s p.component a (λ part h. acts.SetParameter h (key 2 p.index) (params.Supplier supplier)) (λ part h. refl) x)
  claim_said w v (lines.SetPriority c n) a said r x step e = sym (quiet place r s c a (λ part h. acts.SetParameter h (key 3 0) (params.Priority n)) (λ part h. refl) x)
  claim_said w v (lines.Gain c n) a said r x step e = sym (quiet place r s c a (λ part h. acts.SetConfig h (key 4 0) (params.Gain n)) (λ part h. refl) x)
  claim_said w v (lines.Weight p n) a said r x step e = sym (quiet place r s p.component a (λ part h. acts.SetConfig h (key 5 p.index) (params.Weight n)) (λ part h. refl) x)
  claim_said w v (lines.SendState c state) a said r x step e = sym (quiet place r s c a (λ part h. acts.SendCommand h (StateSet state)) (λ part h. refl) x)
  claim_said w v (lines.SendFlush c ports) a said r x step e = sym (quiet place r s c a (λ part h. acts.SendCommand h (Flush ports)) (λ part h. refl) x)
  claim_said w v (lines.SendDisable c ports) a said r x step e = sym (quiet place r s c a (λ part h. acts.SendCommand h (PortDisable ports)) (λ part h. refl) x)
  claim_said w v (lines.SendEnable c ports) a said r x step e = sym (quiet place r s c a (λ part h. acts.SendCommand h (PortEnable ports)) (λ part h. refl) x)
  claim_said w v (lines.Run c) a said r x step e = sym (quiet place r s c a (λ part h. acts.RunCommand h) (λ part h. refl) x)
  claim_said w v (lines.Supply p) a said r x step e = sym (quiet place r s p.component a (λ part h. acts.Supply h p.index) (λ part h. refl) x)
  claim_said w v (lines.Release p) a said r x step e = sym (quiet place r s p.component a (λ part h. acts.Release h p.index) (λ part h. refl) x)
  claim_said w v (lines.Over p) a said r x step e = sym (quiet place r s p.component a (λ part h. acts.HandOver h p.index) (λ part h. refl) x)
  claim_said w v (lines.Back p) a said r x step e = sym (quiet place r s p.component a (λ part h. acts.HandBack h p.index) (λ part h. refl) x)
  claim_said w v (lines.Take c) a said r x step e = sym (quiet place r s c a (λ part h. acts.TakeNote h) (λ part h. refl) x)
  claim_said w v (lines.Tunnel p q) a said r x step e = sym (both_quiet place r s p.component q.component a (λ h k. acts.SetupTunnel (port_at h p.index) (port_at k q.index)) (λ h k. refl) x)
  claim_said w v (lines.DropTunnel p q) a said r x step e = sym (both_quiet place r s p.component q.component a (λ h k. acts.DropTunnel (port_at h p.index) (port_at k q.index)) (λ h k. refl) x)
  claim_said w v (lines.SendMark c port target value) a said r x step e = sym (both_quiet place r s c target a (λ h k. acts.SendCommand h (MarkBuffer port k value)) (λ h k. refl) x)
  claim_said w v (lines.Finish c) a said r x step e = sym (subst (λ (b : Act). is_work_of place b r ≡ false) (sym (x.4).2) refl)
  claim_said w v (lines.End c) a said r x step e = sym (subst (λ (b : Act). is_work_of place b r ≡ false) (sym (x.4).1) refl)
  claim_said w v lines.Grant a said r x step e = sym (subst (λ (b : Act). is_work_of place b r ≡ false) (sym x) refl)
  claim_said w v lines.Preempt a said r x step e = sym (subst (λ (b : Act). is_work_of place b r ≡ false) (sym x) refl)

  line_said : (w v : World) (pass : ℕ) (line : LogLine) (entry : Entry) → Says s line entry → Step w entry.act entry.reply v → is_claim_by pass part.name line ≡ is_work_by pass place entry
  line_said w v pass line entry S step =
      ap (λ (n : ℕ). nat_eq n pass && is_claim_of part.name (line.said).act (line.said).reply) S.pass
      ∙ ap (λ (b : Bool). nat_eq entry.pass pass && b) (claim_said w v (line.said).act entry.act (line.said).reply entry.reply S.act step S.reply)

  -- ---- all lines

  lines_said : (pass : ℕ) (rows : List LogLine) (entries : List Entry) (w v : World) → NameAll s w rows entries v → claims_by pass part.name rows ≡ works_by pass place entries
  lines_said pass [] [] w v N = refl
  lines_said pass [] (entry ∷ entries) w v N = absurd N
  lines_said pass (line ∷ rows) [] w v N = absurd N
  lines_said pass (line ∷ rows) (entry ∷ entries) w v (names, (next, step, more)) =
      count_more (is_claim_by pass part.name) line rows
      ∙ ap (λ (b : Bool). cond b 1 0 + claims_by pass part.name rows) (line_said w next pass line entry names.says step)
      ∙ ap (λ (n : ℕ). cond (is_work_by pass place entry) 1 0 + n) (lines_said pass rows entries next v more)
      ∙ sym (count_more (is_work_by pass place) entry entries)

-- ---- entries without a line

-- an entry that gives a work has a line
work_printed : (number : ℕ) (a : Act) (r : Reply) → is_unprinted r ≡ true → is_work_of number a r ≡ false
work_printed number (acts.Claim h) (acts.Claimed (Ok (ClaimedWork work))) e = absurd cc
work_printed number _ _ e = refl

and_no : (b c : Bool) → c ≡ false → (b && c) ≡ false
and_no true c e = e
and_no false c e = refl

printed_works : (pass number : ℕ) (history : List Entry) → works_by pass number (printed history) ≡ works_by pass number history
printed_works pass number [] = refl
printed_works pass number (entry ∷ history) =
    let rest = printed_works pass number history in
    let p = is_work_by pass number in
    either (is_unprinted entry.reply)
    (λ t.
    let idle : is_work_by pass number entry ≡ false = and_no (nat_eq entry.pass pass) (is_work_of number entry.act entry.reply) (work_printed number entry.act entry.reply t) in
    ap (λ (b : Bool). count_by p (cond (not b) (entry ∷ printed history) (printed history))) t
    ∙ rest
    ∙ sym (count_none p entry history idle))
    (λ f.
    ap (λ (b : Bool). count_by p (cond (not b) (entry ∷ printed history) (printed history))) f
    ∙ count_more p entry (printed history)
    ∙ ap (λ (n : ℕ). cond (p entry) 1 0 + n) rest
    ∙ sym (count_more p entry history))

-- ---- a play's log

-- a component's number is its place
opening_numbers : (plan : PlanValue) (files : PlayFiles) (w : World) → IsOpening plan files w → (k : ℕ) (h : Handle) → slice_get (scene_of plan.parts w).handles k ≡ Some h → h.generation ≡ k
opening_numbers plan files w O k h e = at_number (slice_get w.components k) refl where
  at_number : (o : Option Component) → slice_get w.components k ≡ o → h.generation ≡ k
  at_number None f = absurd (let n : None ≡ Some h = sym (ap (option_map (λ (c : Component). c.handle)) f) ∙ sym (slice_get-map (λ (c : Component). c.handle) w.components k) ∙ e in cc)
  at_number (Some c) f =
      let is : Some c.handle ≡ Some h = sym (ap (option_map (λ (d : Component). d.handle)) f) ∙ sym (slice_get-map (λ (d : Component). d.handle) w.components k) ∙ e in
      ap (λ (g : Handle). g.generation) (sym (some_same c.handle h is)) ∙ (((O.1).built).components.each k c f).number

pub claims_are : (plan : PlanValue) (files : PlayFiles) (opening after : World) (rows : List LogLine) (history : List Entry) (pass place : ℕ) (part : PartLine) → HaveOwnNames plan.parts → IsOpening plan files opening
    → NameAll (scene_of plan.parts opening) opening rows (printed history) after → slice_get plan.parts place ≡ Some part → claims_by pass part.name rows ≡ works_by pass place history
claims_are plan files opening after rows history pass place part own O N there =
    lines_said (scene_of plan.parts opening) own (opening_numbers plan files opening O) place part there pass rows (printed history) opening after N
    ∙ printed_works pass place history

module _ {G : Type 0} (counts : G → Option (ℕ → ℕ)) (parts : List PartLine) (rows : List LogLine) (history : List Entry)
    (are : (pass place : ℕ) (part : PartLine) → slice_get parts place ≡ Some part → claims_by pass part.name rows ≡ works_by pass place history) where
  counts_tell : (told : Option (ℕ → ℕ)) (pass : ℕ) → CountsMeet told pass (length parts) history → CountsTell told pass parts rows
  counts_tell None pass M = tt
  counts_tell (Some count) pass M = λ place part there. M place (slice_get_within parts place part there) ∙ sym (are pass place part there)

  gates_from : (pass : ℕ) (gates : List G) → GatesMeet counts pass gates (length parts) history → GatesTell counts pass gates parts rows
  gates_from pass [] M = tt
  gates_from pass (gate ∷ gates) (one, more) = (counts_tell (counts gate) pass one, gates_from (pass + 1) gates more)

pub gates_tell : {G : Type 0} (counts : G → Option (ℕ → ℕ)) (gates : List G) (plan : PlanValue) (files : PlayFiles) (opening after : World) (rows : List LogLine) (history : List Entry) → HaveOwnNames plan.parts → IsOpening plan files opening
    → NameAll (scene_of plan.parts opening) opening rows (printed history) after → GatesMeet counts 1 gates (length plan.parts) history → GatesTell counts 1 gates plan.parts rows
gates_tell counts gates plan files opening after rows history own O N M =
    gates_from counts plan.parts rows history (λ pass place part there. claims_are plan files opening after rows history pass place part own O N there) 1 gates M

-- ---- each claim is counted

claim_is : (name : List ℕ) (t : TextAct) (said : TextReply) → is_claim_of name t said ≡ true → (component : List ℕ) × (t ≡ lines.Claim component) × (said ≡ texts.Work)
claim_is name (lines.Claim component) texts.Work e = (component, refl, refl)
claim_is name _ _ e = absurd cc

unasked_claim : (w v : World) (s : Scene) (h : Handle) (r : Reply) → Step w (acts.Claim h) r v → SaysReply s texts.Work (acts.Claim h) r → is_unasked (acts.Claim h) r ≡ true
unasked_claim w v s h (acts.Claimed (Ok (ClaimedWork work))) step e = refl
unasked_claim w v s h (acts.Claimed (Ok ClaimedBusy)) step e = absurd cc
unasked_claim w v s h (acts.Claimed (Ok ClaimedNotRunning)) step e = absurd cc
unasked_claim w v s h (acts.Claimed (Ok ClaimedEnded)) step e = absurd cc
unasked_claim w v s h (acts.Claimed (Ok (ClaimedHeld port))) step e = absurd cc
unasked_claim w v s h (acts.Claimed (Ok (ClaimedNoData port))) step e = absurd cc
unasked_claim w v s h (acts.Claimed (Ok (ClaimedNoRoom port))) step e = absurd cc
unasked_claim w v s h (acts.Claimed (Ok (ClaimedEvents room need))) step e = absurd cc
unasked_claim w v s h (acts.Claimed (Err error)) step e = absurd cc
unasked_claim w v s h _ step e = absurd step

-- a line of a pass that no worker has is no claim
line_none : (workers pass : ℕ) (s : Scene) (w v : World) (line : LogLine) (entry : Entry) (name : List ℕ) → 1 ≤ workers → IsPassOf workers entry → Says s line entry → Step w entry.act entry.reply v
    → (pass ≡ 0) ⊎ (workers < pass) → is_claim_by pass name line ≡ false
line_none zero pass s w v line entry name least P S step far = absurd (omega (arith, least))
line_none (suc more) pass s w v line entry name least P S step far =
    either (is_claim_by pass name line)
    (λ t.
    let (same, claims) = and_parts (nat_eq line.pass pass) (is_claim_of name (line.said).act (line.said).reply) t in
    let (component, act_is, reply_is) = claim_is name (line.said).act (line.said).reply claims in
    let x = subst (λ (y : TextAct). SaysAct s y entry.act) act_is S.act in
    let is : entry.act ≡ acts.Claim x.2 = x.4 in
    let reply = subst (λ (b : Act). SaysReply s texts.Work b entry.reply) is (subst (λ (y : TextReply). SaysReply s y entry.act entry.reply) reply_is S.reply) in
    let unasked : is_unasked (acts.Claim x.2) entry.reply ≡ true = unasked_claim w v s x.2 entry.reply (subst (λ (b : Act). Step w b entry.reply v) is step) reply in
    let unsent : is_asked (step_of entry) ≡ false = ap (λ (b : Act). not (is_unasked b entry.reply)) is ∙ ap (λ (b : Bool). not b) unasked in
    let range = P.1 unsent in
    let at : line.pass ≡ pass = eqb-true line.pass pass same in
    let of_entry = S.pass in
    let low = range.0 in
    let high = range.1 in
    absurd (elim far [ inl z ↦ omega (arith, z, at, of_entry, low) | inr b ↦ omega (arith, b, at, of_entry, high) ]))
    (λ f. f)

pub counted_all : (workers pass : ℕ) (s : Scene) (w v : World) (rows : List LogLine) (entries : List Entry) (name : List ℕ) → 1 ≤ workers → All (IsPassOf workers) entries → NameAll s w rows entries v
    → (pass ≡ 0) ⊎ (workers < pass) → claims_by pass name rows ≡ 0
counted_all workers pass s w v [] [] name least A N far = refl
counted_all workers pass s w v [] (entry ∷ entries) name least A N far = absurd N
counted_all workers pass s w v (line ∷ rows) [] name least A N far = absurd N
counted_all workers pass s w v (line ∷ rows) (entry ∷ entries) name least A (names, (next, step, more)) far =
    count_none (is_claim_by pass name) line rows (line_none workers pass s w next line entry name least (All-head (IsPassOf workers) entry entries A) names.says step far)
    ∙ counted_all workers pass s next v rows entries name least (All-tail (IsPassOf workers) entry entries A) more far
