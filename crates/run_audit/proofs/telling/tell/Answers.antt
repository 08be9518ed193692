use Rattle.std.proofs.Common.{◌≡◌, ◌≢◌, ◌<◌, ◌≤◌, inl, inr, ℕ, length, set, slice_get, Some, refl, sym, ◌∙◌, ap, subst, arith}
use Rattle.std.proofs.lemmas.Bool.{cases_eq}
use Rattle.std.proofs.lemmas.Option.{slice_get-get_or}
use Rattle.machine_laws.proofs.Every.{set_else, set_there}
use Rattle.act_text.specs.declared.act.TextAct.TheVariants as lines
use Rattle.act_text.specs.declared.reply.TextReply.TheVariants as texts
use Rattle.act_text.specs.declared.text.ActText.{ActText}
use Rattle.audit_forms.specs.Told.{told_more}
use Rattle.run_audit.proofs.Heard.{more_at, more_long, same_lists, there_at, untold}
use Rattle.run_audit.proofs.telling.tell.Goals as goal

pub returns-in_default : goal.returns-in_default
returns-in_default c = sym (untold c.args.said.now c.args.parts.now c.args.told.now (λ name event e. c.in_default.not-Take name (ap (λ (s : ActText). s.act) e)) c.requires)

pub returns-in_default-reply : goal.returns-in_default-reply
returns-in_default-reply c = sym (untold c.args.said.now c.args.parts.now c.args.told.now (λ name event e. c.in_default-reply.not-Event event (ap (λ (s : ActText). s.reply) e)) c.requires)

pub loop-place-init : goal.loop-place-init
loop-place-init c = (λ k l. absurd (omega (arith, l)), λ k l. refl)

pub loop-place-preserved : goal.loop-place-preserved
loop-place-preserved c =
    let said : ActText = record { act = lines.Take c.in-Take.name; reply = texts.Event c.in-Event.event } in
    let parts = c.args.parts.now in
    let old = c.args.told.now in
    let told = c.loop-place.told in
    let place = c.loop-place.place in
    let within : place < length parts = c.loop-place-test.true in
    let long : length told ≡ length parts = c.loop-place.auto.told ∙ c.requires in
    let part = slice_get-get_or parts place c.index-parts-place.result within ∙ ap Some (sym c.index-parts-place.is) in
    let before = c.loop-place.invariant.1 place (omega arith) in
    let there = there_at told place (omega (arith, within, long)) in (
      λ k l. elim (cases_eq k place) [
        | inl e ↦
            subst (λ (j : ℕ). slice_get (set told place c.heard.result) j ≡ slice_get (told_more said parts old) j) (sym e)
            (set_there told place there.0 c.heard.result there.1
            ∙ (ap Some c.heard.ensures ∙ sym (more_at said parts old place c.index-parts-place.result _ part (sym before ∙ slice_get-get_or told place _ (omega (arith, within, long))))))
        | inr n ↦ set_else told place k c.heard.result n ∙ c.loop-place.invariant.0 k (omega (arith, l, n))
      ],
      λ k l. (let n : k ≢ place = λ e. omega (arith, l, e) in set_else told place k c.heard.result n ∙ c.loop-place.invariant.1 k (omega (arith, l))),
    )

pub returns : goal.returns
returns c =
    let parts = c.args.parts.now in
    let old = c.args.told.now in
    let told = c.loop-place.told in
    let said : ActText = record { act = lines.Take c.in-Take.name; reply = texts.Event c.in-Event.event } in
    let act : said.act ≡ c.args.said.now.act = sym c.in-Take.is in
    let reply : said.reply ≡ c.args.said.now.reply = sym c.in-Event.is in
    let same : said ≡ c.args.said.now = λ i. record { act = act i; reply = reply i } in
    let long : length told ≡ length parts = c.loop-place.auto.told ∙ c.requires in
    let many : length (told_more said parts old) ≡ length parts = more_long said parts old c.requires in
    let past : length parts ≤ c.loop-place.place = c.loop-place-test.false in
    let is : told ≡ told_more said parts old = same_lists told (told_more said parts old) (long ∙ sym many) (λ k l. c.loop-place.invariant.0 k (omega (arith, l, long, past))) in
    subst (λ (s : ActText). told ≡ told_more s parts old) same is
