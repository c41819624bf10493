use Rattle.std.proofs.Common.{◌≡◌, nat_eq, ◌++◌, ◌∷◌, [], refl, sym, ap, ◌∙◌, rules, ◌-◌}
use Rattle.std.specs.HashMap.{get}
use Rattle.std.proofs.lemmas.List.{append-nil}
use Rattle.road_time.specs.Sights.{moments}
use Rattle.road_time.specs.Day.{rules as rules_of, charges_by, notices_by, balance_by}
use Rattle.road_time.proofs.AccountLaws.{charges_push}
use Rattle.road_time.specs.declared.road.Notice.TheVariants.{Balance as BalanceNotice, Spent as SpentNotice}
use Rattle.road_time.specs.declared.road.Tuple.TheVariants.{Balance, Spent, Travel}
use Rattle.road_rules.specs.Accounts.{owed_kept}
use Rattle.road_rules.specs.Payments.{amount_in}
use Rattle.road_rules.specs.Outputs.{IsOutput}
use Rattle.road_rules.proofs.OutputLaws.{notices_push, accounts_other, accounts_small}
use Rattle.road_rules.proofs.output.take_tuple.Goals as goal

pub take_report-requires-clause-small : goal.take_report-requires-clause-small
take_report-requires-clause-small c =
    accounts_small c.args.gathered.now.tuples.now c.args.tariffs.now (get nat_eq c.args.output.now.accounts)
    c.requires.stands.0 c.requires.stands.1 c.requires.stands.2.accounts

pub returns-in_ok-push-in-Balance : goal.returns-in_ok-push-in-Balance
returns-in_ok-push-in-Balance c = λ before st.
    let day = c.args.gathered.now.tuples.now in
    let finding = rules_of day c.args.tariffs.now in
    let kept = amount_in c.args.payments.now in
    let x = Balance c.in-Balance.time c.in-Balance.vid c.in-Balance.qid in
    let last : c.copied.result ≡ get nat_eq c.args.output.now.accounts c.in-Balance.vid = search rules in
    let amount : c.owed-amount.result ≡ balance_by finding c.in-Balance.vid before = c.owed-amount.ensures
    ∙ ap owed_kept last ∙ st.accounts.owed c.in-Balance.vid in
    let items : c.push.new.self.items ≡ c.args.output.now.notices.items ++ BalanceNotice c.in-Balance.time
    c.in-Balance.qid c.owed-amount.result ∷ [] = search rules in
    let is : IsOutput day c.args.tariffs.now c.args.day kept
    (record {
      accounts = c.args.output.now.accounts;
      found = c.args.output.now.found;
      charges =
          c.args.output.now.charges;
      notices = c.push.new.self;
    }) (before ++ x ∷ []) = record {
      known = st.known;
      accounts = accounts_other finding (get nat_eq c.args.output.now.accounts) before x refl refl st.accounts;
      charges = st.charges ∙ sym (append-nil (charges_by finding (moments before)))
          ∙ sym (charges_push finding before x);
      notices =
          items ∙ ap (λ ns. ns ++ BalanceNotice c.in-Balance.time c.in-Balance.qid c.owed-amount.result ∷ []) st.notices
          ∙ ap (λ n. notices_by finding c.args.day kept (moments before) ++ BalanceNotice c.in-Balance.time
          c.in-Balance.qid n ∷ []) amount
          ∙ sym (notices_push finding c.args.day kept before x);
    } in
    rw c.in-Balance.is is

pub returns-in_ok-push-in-Spent : goal.returns-in_ok-push-in-Spent
returns-in_ok-push-in-Spent c = λ before st.
    let day = c.args.gathered.now.tuples.now in
    let finding = rules_of day c.args.tariffs.now in
    let kept = amount_in c.args.payments.now in
    let x = Spent c.in-Spent.time c.in-Spent.vid c.in-Spent.xway c.in-Spent.qid c.in-Spent.ago in
    let amount : c.paid-amount.result ≡ kept (c.args.day - c.in-Spent.ago) c.in-Spent.vid c.in-Spent.xway =
    search rules in
    let items : c.push-in-Spent.new.self.items ≡ c.args.output.now.notices.items
    ++ SpentNotice c.in-Spent.time c.in-Spent.qid c.paid-amount.result ∷ [] = search rules in
    let is : IsOutput day c.args.tariffs.now c.args.day kept
    (record {
      accounts = c.args.output.now.accounts;
      found = c.args.output.now.found;
      charges =
          c.args.output.now.charges;
      notices = c.push-in-Spent.new.self;
    }) (before ++ x ∷ []) = record {
      known = st.known;
      accounts = accounts_other finding (get nat_eq c.args.output.now.accounts) before x refl refl st.accounts;
      charges = st.charges ∙ sym (append-nil (charges_by finding (moments before)))
          ∙ sym (charges_push finding before x);
      notices = items ∙ ap (λ ns. ns ++ SpentNotice c.in-Spent.time c.in-Spent.qid c.paid-amount.result ∷ []) st.notices
          ∙ ap (λ n. notices_by finding c.args.day kept (moments before) ++ SpentNotice c.in-Spent.time c.in-Spent.qid n
          ∷ []) amount
          ∙ sym (notices_push finding c.args.day kept before x);
    } in
    rw c.in-Spent.is is

pub returns-in-Travel : goal.returns-in-Travel
returns-in-Travel c = λ before st.
    let day = c.args.gathered.now.tuples.now in
    let finding = rules_of day c.args.tariffs.now in
    let kept = amount_in c.args.payments.now in
    let x = Travel c.in-Travel.time in
    let is : IsOutput day c.args.tariffs.now c.args.day kept c.args.output.now (before ++ x ∷ []) = record {
      known = st.known;
      accounts = accounts_other finding (get nat_eq c.args.output.now.accounts) before x refl refl st.accounts;
      charges = st.charges ∙ sym (append-nil (charges_by finding (moments before)))
          ∙ sym (charges_push finding before x);
      notices = st.notices ∙ sym (append-nil _) ∙ sym (notices_push finding c.args.day kept before x);
    } in
    rw c.in-Travel.is is
