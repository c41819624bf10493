use Rattle.std.proofs.Common.{◌≡◌, ◌+◌, ap, sym, ◌∙◌, subst, rules, vec_len, All}
use Rattle.std.proofs.lemmas.List.Elements.{All-push}
use Rattle.ways_audit.proofs.TakenLaws.{IsNew, new_have_seen}
use Rattle.ways_audit.proofs.shards.new_shards.Goals as goal

pub loop-preserved : goal.loop-preserved
loop-preserved c = record {
  many = (let long : vec_len c.push.new.self ≡ vec_len c.loop.shards + 1 = search rules in
      long ∙ ap (λ n. n + 1) c.loop.invariant.many);
  each = subst (All IsNew) (sym c.in_ok-push.ensures.items)
      (All-push IsNew c.loop.shards.items c.new.result c.loop.invariant.each
      (record { tracks = c.new.ensures.tracker; nothing = c.new.ensures.nothing; serves = c.new.ensures.serves }));
}

pub returns-clause-seen : goal.returns-clause-seen
returns-clause-seen c = new_have_seen c.loop.shards.items c.loop.invariant.each
