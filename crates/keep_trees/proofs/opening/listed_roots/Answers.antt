use Rattle.std.proofs.Common.{refl, inl, inr, ◌∙◌, arith, codes}
use Rattle.sqlite_store.specs.Db.{roots_of}
use Rattle.sqlite_store.proofs.Causes.{Continues-trans}
use Rattle.keep_tables.specs.Texts.{make_days, make_spent, make_past, make_day_tariffs, make_tariffs, make_form}
use Rattle.keep_trees.specs.Pages.{table_listed, listed_key}
use Rattle.keep_trees.proofs.ListingLaws.{at_first}
use Rattle.keep_trees.proofs.opening.listed_roots.Goals as goal

pub returns-clause-done : goal.returns-clause-done
unfolding roots_of
returns-clause-done g c clean db =
    let d0 =
    at_first (table_listed (codes "days") make_days) _ c.in-Some.days refl refl db
    (λ b. (c.in_ok-days.ensures.done
    (omega (
      arith,
      c.table_at-2.ensures.kept.clean,
      c.key_at.ensures.kept.clean,
      c.table_at-3.ensures.kept.clean,
      c.table_at-4.ensures.kept.clean,
      c.table_at-5.ensures.kept.clean,
      c.table_at-6.ensures.kept.clean,
    ))) b
    (inl refl)) c.in-Some.is in
    let s0 = c.table_at.ensures.kept.same_size in
    let p0 = c.table_at.ensures.pages in
    let d1 =
    at_first (table_listed (codes "spent") make_spent) _ c.in-Some-2.spent s0 p0 db
    (λ b. (c.in_ok-spent.ensures.done
    (omega (
      arith,
      c.key_at.ensures.kept.clean,
      c.table_at-3.ensures.kept.clean,
      c.table_at-4.ensures.kept.clean,
      c.table_at-5.ensures.kept.clean,
      c.table_at-6.ensures.kept.clean,
    ))) b (inr (inl refl))) c.in-Some-2.is in
    let s1 = c.table_at-2.ensures.kept.same_size ∙ s0 in
    let p1 = c.table_at-2.ensures.pages ∙ p0 in
    let d2 =
    at_first listed_key _ c.in-Some-3.spent_key s1 p1 db
    (λ b. (c.in_ok-spent_key.ensures.done
    (omega (
      arith,
      c.table_at-3.ensures.kept.clean,
      c.table_at-4.ensures.kept.clean,
      c.table_at-5.ensures.kept.clean,
      c.table_at-6.ensures.kept.clean,
    ))) b) c.in-Some-3.is in
    let s2 = c.key_at.ensures.kept.same_size ∙ s1 in
    let p2 = c.key_at.ensures.pages ∙ p1 in
    let d3 =
    at_first (table_listed (codes "past") make_past) _ c.in-Some-4.past s2 p2 db
    (λ b. (c.in_ok-past.ensures.done
    (omega (
      arith,
      c.table_at-4.ensures.kept.clean,
      c.table_at-5.ensures.kept.clean,
      c.table_at-6.ensures.kept.clean,
    ))) b (inr (inr (inr (inl refl))))) c.in-Some-4.is in
    let s3 = c.table_at-3.ensures.kept.same_size ∙ s2 in
    let p3 = c.table_at-3.ensures.pages ∙ p2 in
    let d4 =
    at_first (table_listed (codes "day_tariffs") make_day_tariffs) _ c.in-Some-5.seals s3 p3 db
    (λ b. (c.in_ok-seals.ensures.done
    (omega (arith, c.table_at-5.ensures.kept.clean, c.table_at-6.ensures.kept.clean))) b
    (inr (inr (inr (inr (inl refl)))))) c.in-Some-5.is in
    let s4 = c.table_at-4.ensures.kept.same_size ∙ s3 in
    let p4 = c.table_at-4.ensures.pages ∙ p3 in
    let d5 =
    at_first (table_listed (codes "tariffs") make_tariffs) _ c.in-Some-6.tariffs s4 p4 db
    (λ b. (c.in_ok-tariffs.ensures.done (omega (arith, c.table_at-6.ensures.kept.clean))) b
    (inr (inr (inr (inr (inr (inl refl))))))) c.in-Some-6.is in
    let s5 = c.table_at-5.ensures.kept.same_size ∙ s4 in
    let p5 = c.table_at-5.ensures.pages ∙ p4 in
    let d6 =
    at_first (table_listed (codes "form") make_form) _ c.in-Some-7.form s5 p5 db
    (λ b. (c.in_ok-form.ensures.done (omega arith)) b (inr (inr (inr (inr (inr (inr (inl refl)))))))) c.in-Some-7.is in
    rw (d0, d1, d2, d3, d4, d5, d6) refl

pub returns-clause-kept : goal.returns-clause-kept
returns-clause-kept g c =
    let k1 = Continues-trans g.P.Pages g.met.P.Pages.follows_trans c.table_at.ensures.kept c.table_at-2.ensures.kept in
    let k2 = Continues-trans g.P.Pages g.met.P.Pages.follows_trans k1 c.key_at.ensures.kept in
    let k3 = Continues-trans g.P.Pages g.met.P.Pages.follows_trans k2 c.table_at-3.ensures.kept in
    let k4 = Continues-trans g.P.Pages g.met.P.Pages.follows_trans k3 c.table_at-4.ensures.kept in
    let k5 = Continues-trans g.P.Pages g.met.P.Pages.follows_trans k4 c.table_at-5.ensures.kept in
    Continues-trans g.P.Pages g.met.P.Pages.follows_trans k5 c.table_at-6.ensures.kept
