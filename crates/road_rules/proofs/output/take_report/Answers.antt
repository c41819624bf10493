use Rattle.std.proofs.Common.{◌≡◌, nat_eq, ◌++◌, sym, ap, ◌∙◌, cond, Some, rules}
use Rattle.std.specs.HashMap.{get}
use Rattle.std.proofs.lemmas.List.{append-nil}
use Rattle.road_time.specs.Sights.{moments, sights_of, previous}
use Rattle.road_time.specs.Stays.{is_told}
use Rattle.road_time.specs.Tolls.{finding_at}
use Rattle.road_time.specs.Tuples.{reports}
use Rattle.road_time.specs.Day.{rules as rules_of, charges_by, notices_by}
use Rattle.road_time.proofs.AccountLaws.{charges_push}
use Rattle.road_time.specs.declared.road.Tuple.TheVariants.{Report as ReportTuple}
use Rattle.road_rules.specs.Findings.{shown_told, finding_if}
use Rattle.road_rules.specs.Accounts.{newest_of, account_after, charge_after, notices_told}
use Rattle.road_rules.proofs.OutputLaws.{charge_is, notices_push, told_is, accounts_push}
use Rattle.road_rules.proofs.output.take_report.Goals as goal

pub returns : goal.returns
returns c = λ number kept before st.
    let day = c.args.gathered.now.tuples.now in
    let g = c.args.tariffs.now in
    let r = c.args.r.now in
    let finding = rules_of day g in
    let last : c.copied-last.result ≡ get nat_eq c.args.output.now.accounts r.vid = search rules in
    let prev : c.newest.result ≡ previous (sights_of before r.vid) = c.newest.ensures ∙ ap newest_of last
    ∙ st.accounts.newest r.vid in
    let exact : shown_told c.in_ok-now.now ≡ finding_if (is_told (previous (sights_of before r.vid)) r)
    (finding_at (reports day) g r) =
    c.in_ok-now.ensures.exact ∙ ap (λ p. finding_if (is_told p r) (finding_at (reports day) g r)) prev in
    let account : c.after.result ≡ account_after (get nat_eq c.args.output.now.accounts r.vid) r c.in_ok-now.now =
    c.after.ensures ∙ ap (λ l. account_after l r c.in_ok-now.now) last in
    record {
      known = c.in_ok-now.ensures.kept;
      accounts = accounts_push finding (get nat_eq c.args.output.now.accounts) (get nat_eq c.insert.new.self) before r
          c.in_ok-now.now st.accounts
          (λ v. c.in_ok-insert.ensures.updates.0 v
          ∙ ap (λ a. cond (nat_eq r.vid v) (Some a) (get nat_eq c.args.output.now.accounts v)) account) exact;
      charges = c.in_ok-add_charge.ensures ∙ ap (λ cs. cs ++ charge_after c.copied-last.result r) st.charges
          ∙ ap (λ l. charges_by finding (moments before) ++ charge_after l r) last
          ∙ ap (λ cs. charges_by finding (moments before) ++ cs)
          (sym (charge_is finding (get nat_eq c.args.output.now.accounts) before r st.accounts))
          ∙ sym (charges_push finding before (ReportTuple r));
      notices = c.in_ok-add_told.ensures ∙ ap (λ ns. ns ++ notices_told r (shown_told c.in_ok-now.now)) st.notices
          ∙ ap (λ ns. notices_by finding number kept (moments before) ++ ns)
          (ap (notices_told r) exact ∙ sym (told_is finding (is_told (previous (sights_of before r.vid)) r) (_, r))
          ∙ sym (append-nil _))
          ∙ sym (notices_push finding number kept before (ReportTuple r));
    }
