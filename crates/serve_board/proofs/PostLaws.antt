-- what a writer posted, by its page and the posts that wait
use Rattle.std.proofs.Common.{◌≡◌, List, [], ◌∷◌, ◌++◌, refl, sym, ap, ◌∙◌}
use Rattle.std.proofs.lemmas.List.{append_assoc, append-nil}
use Rattle.std.proofs.lemmas.List.Sums.{fold-append}
use Rattle.std.specs.List.{fold}
use Rattle.day_floor.specs.Operations.{Operation, Posted, posted_with, queued_with}
use Rattle.serve_board.specs.declared.change.Change.{Change}
use Rattle.serve_board.specs.declared.page.Page.{Page}
use Rattle.serve_board.specs.declared.page.Post.{Post}
use Rattle.serve_board.specs.declared.page.Post.TheVariants.{Changed, Reached}
use Rattle.serve_board.specs.OperationLog.{Reach}
use Rattle.serve_board.specs.Changes.{operation_of, operations_of, page_with, posted_on}
use Rattle.serve_board.specs.Passes.{HasAll}

-- a change that is put behind posts
pub operations_more : (ps : List Post) (c : Change) →
    operations_of (ps ++ Changed c ∷ []) ≡ operations_of ps ++ operation_of c ∷ []
operations_more [] c = refl
operations_more (Changed x ∷ ps) c = ap (λ os. operation_of x ∷ os) (operations_more ps c)
operations_more (Reached f ∷ ps) c = operations_more ps c

-- a beginning of the history that is put behind posts
pub operations_same : (ps : List Post) (f : Reach) → operations_of (ps ++ Reached f ∷ []) ≡ operations_of ps
operations_same [] f = refl
operations_same (Changed x ∷ ps) f = ap (λ os. operation_of x ∷ os) (operations_same ps f)
operations_same (Reached g ∷ ps) f = operations_same ps f

-- a page with posts has the beginning of the history that came last
pub front_last : (p : Page) (ps : List Post) (f : Reach) → (fold page_with p (ps ++ Reached f ∷ [])).front ≡ f
front_last p ps f = ap (λ (q : Page). q.front) (fold-append page_with p ps (Reached f ∷ []))

-- two of the same parts
posted_made : {a a' b b' : List Operation} → a ≡ a' → b ≡ b' →
    ◌≡◌ {A = Posted} (record { published = a; queued = b }) (record { published = a'; queued = b' })
posted_made p q = cc

-- a change that is appended waits
pub change_waits : (x y : Page) (ps qs : List Post) (c : Change) → y ≡ x → qs ≡ ps ++ Changed c ∷ [] →
    posted_on y qs ≡ queued_with (operation_of c) (posted_on x ps)
change_waits x y ps qs c same is =
    posted_made (ap (λ (p : Page). p.front.log) same) (ap operations_of is ∙ operations_more ps c)

-- so it does with the beginning of the history behind it
pub both_wait : (x y : Page) (ps qs rs : List Post) (c : Change) (f : Reach) → y ≡ x → qs ≡ ps ++ Changed c ∷ [] →
    rs ≡ qs ++ Reached f ∷ [] → posted_on y rs ≡ queued_with (operation_of c) (posted_on x ps)
both_wait x y ps qs rs c f same is more =
    posted_made (ap (λ (p : Page). p.front.log) same)
    (ap operations_of more ∙ (operations_same qs f ∙ (ap operations_of is ∙ operations_more ps c)))

-- a beginning of the history with one operation more
abbrev pub reach_with : Operation → Reach → Reach
reach_with o r = record { book = r.book; log = r.log ++ o ∷ [] }

-- all is published where a page has that beginning, and nothing waits
pub all_posted : (x z : Page) (ps ss : List Post) (c : Change) (front : Reach) →
    front.log ≡ x.front.log ++ operations_of ps → z.front ≡ reach_with (operation_of c) front → ss ≡ [] →
    posted_on z ss ≡ posted_with (operation_of c) (posted_on x ps)
all_posted x z ps ss c front had shown none =
    posted_made
    (ap (λ (r : Reach). r.log) shown
    ∙ (ap (λ os. os ++ operation_of c ∷ []) had
    ∙ append_assoc x.front.log (operations_of ps) (operation_of c ∷ []))) (ap operations_of none)

-- with the beginning behind the change, a page of all that waits has it
pub front_is : (y z : Page) (qs rs : List Post) (f : Reach) → rs ≡ qs ++ Reached f ∷ [] → z ≡ fold page_with y rs →
    z.front ≡ f
front_is y z qs rs f more is = ap (λ (p : Page). p.front) is
    ∙ (ap (λ os. (fold page_with y os).front) more ∙ front_last y qs f)

-- its operations are those of the page before and all that waits
pub log_is : (x y : Page) (ps qs rs : List Post) (c : Change) (f front : Reach) →
    front.log ≡ x.front.log ++ operations_of ps → y ≡ x → qs ≡ ps ++ Changed c ∷ [] → rs ≡ qs ++ Reached f ∷ [] →
    f ≡ reach_with (operation_of c) front → f.log ≡ y.front.log ++ operations_of rs
log_is x y ps qs rs c f front had same is more shown =
    let waits : operations_of rs ≡ operations_of ps ++ operation_of c ∷ [] = ap operations_of more
    ∙ (operations_same qs f ∙ (ap operations_of is ∙ operations_more ps c)) in
    ap (λ (r : Reach). r.log) shown
    ∙ (ap (λ os. os ++ operation_of c ∷ []) had
    ∙ (append_assoc x.front.log (operations_of ps) (operation_of c ∷ [])
    ∙ (ap (λ os. x.front.log ++ os) (sym waits) ∙ ap (λ (p : Page). p.front.log ++ operations_of rs) (sym same))))

-- the history has what is published and queued, where the change waits
pub held_queued : (tip next : Reach) (o : Operation) (p p' : Posted) → HasAll tip.log p → next ≡ reach_with o tip →
    p' ≡ queued_with o p → HasAll next.log p'
held_queued tip next o p p' had is after =
    ap (λ (r : Reach). r.log) is
    ∙ (ap (λ os. os ++ o ∷ []) had
    ∙ (append_assoc p.published p.queued (o ∷ []) ∙ ap (λ (q : Posted). q.published ++ q.queued) (sym after)))

-- and where it is published
pub held_posted : (tip next : Reach) (o : Operation) (p p' : Posted) → HasAll tip.log p → next ≡ reach_with o tip →
    p' ≡ posted_with o p → HasAll next.log p'
held_posted tip next o p p' had is after =
    ap (λ (r : Reach). r.log) is
    ∙ (ap (λ os. os ++ o ∷ []) had
    ∙ (append_assoc p.published p.queued (o ∷ [])
    ∙ (sym (append-nil (p.published ++ (p.queued ++ o ∷ [])))
    ∙ ap (λ (q : Posted). q.published ++ q.queued) (sym after))))
