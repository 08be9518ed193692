use Rattle.std.proofs.Common.{rules, ◌≡◌, ◌∙◌, sym, subst, ◌++◌, [], ◌∷◌, ℕ, List, All, ap, length, map}
use Rattle.std.proofs.lemmas.List.{length-map}
use Rattle.std.proofs.lemmas.List.Elements.{All-push}
use Rattle.act_text.specs.Texts.{act_text}
use Rattle.play_log.specs.declared.words.Made.{Made}
use Rattle.play_log.proofs.Spelling.{last_there, pushed_map}
use Rattle.play_log.proofs.words.Words.add.Goals as goal

pub invariant_of-self-2 : goal.invariant_of-self-2
invariant_of-self-2 c =
    let text : (c.put_act.new.out).items ≡ act_text c.args.act.now = c.in_ok-put_act.ensures.ok ∙ ap (λ (t : List ℕ). t ++ act_text c.args.act.now) c.new-text.ensures.items in
    let it : Made = record { act = c.args.act.now; text = c.put_act.new.out } in
    subst (All (λ (m : Made). m.text.items ≡ act_text m.act)) (sym c.in_ok-push.ensures.items) (All-push (λ (m : Made). m.text.items ≡ act_text m.act) c.self.inside.made.items it c.self.invariant text)

pub returns-clause-there : goal.returns-clause-there
returns-clause-there c =
    let old : List (List ℕ) = map (λ (m : Made). m.text.items) c.self.inside.made.items in
    let new : List (List ℕ) = map (λ (m : Made). m.text.items) c.push.new.self.items in
    let it : Made = record { act = c.args.act.now; text = c.put_act.new.out } in
    let more : new ≡ old ++ (c.put_act.new.out).items ∷ [] = pushed_map (λ (m : Made). m.text.items) c.self.inside.made.items c.push.new.self.items it c.in_ok-push.ensures.items in
    let text : (c.put_act.new.out).items ≡ act_text c.args.act.now = c.in_ok-put_act.ensures.ok ∙ ap (λ (t : List ℕ). t ++ act_text c.args.act.now) c.new-text.ensures.items in
    let number : c.in-Ok.number ≡ length c.self.inside.made.items = search rules in
    last_there old new (act_text c.args.act.now) c.in-Ok.number (more ∙ ap (λ (t : List ℕ). old ++ t ∷ []) text) (number ∙ sym (length-map c.self.inside.made.items (λ (m : Made). m.text.items)))

pub returns-clause-stay : goal.returns-clause-stay
returns-clause-stay c =
    let it : Made = record { act = c.args.act.now; text = c.put_act.new.out } in
    ((c.put_act.new.out).items ∷ [], pushed_map (λ (m : Made). m.text.items) c.self.inside.made.items c.push.new.self.items it c.in_ok-push.ensures.items ∙ ap (λ (words : List (List ℕ)). words ++ (c.put_act.new.out).items ∷ []) c.self.view_is)
