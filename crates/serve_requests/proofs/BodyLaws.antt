-- Laws of the text of JSON values.
use Rattle.std.proofs.Common.{◌≡◌, ℕ, true, List, ◌∷◌, ◌++◌, codes, decimal, refl, ap, ◌∙◌}
use Rattle.serde_json.specs.Data.{number, string, unsigned, object, member, no_members}
use Rattle.serde_json.specs.Written.{compact_text}
use Rattle.json.specs.Print.{quoted}
use Rattle.serde_json.proofs.OnLiterals.{serde_json_on_literals}
use Rattle.serve_requests.specs.Plain.{is_plain}
use Rattle.serve_requests.specs.Bodies.{error_body, spent_body, health_body, passed_body, live_body, total_body}
use Rattle.serve_requests.proofs.PlainLaws.{quoted_then}

pub error_shape : (w : List ℕ) → is_plain w ≡ true →
    compact_text (object (member (codes "error") (string w) no_members)) ≡ error_body w
unfolding serde_json_on_literals
error_shape w e = ap (λ l. codes "{\"error\":" ++ l) (quoted_then w (codes "}") e)

pub spent_shape : (n : ℕ) → compact_text (object (member (codes "spent") (number (unsigned n)) no_members))
    ≡ spent_body n
unfolding serde_json_on_literals
spent_shape n = refl

pub health_shape : (n : ℕ) → compact_text (object (member (codes "last_day") (number (unsigned n)) no_members))
    ≡ health_body n
unfolding serde_json_on_literals
health_shape n = refl

pub passed_shape : (n : ℕ) → compact_text
    (object (member (codes "error") (string (codes "passed")) (member (codes "last") (number (unsigned n)) no_members)))
    ≡ passed_body n
unfolding serde_json_on_literals
passed_shape n = refl

pub live_shape : (as_of balance day : ℕ) → compact_text
    (object (member (codes "as_of") (number (unsigned as_of))
    (member (codes "balance") (number (unsigned balance)) (member (codes "day") (number (unsigned day)) no_members))))
    ≡ live_body as_of balance day
unfolding serde_json_on_literals
live_shape as_of balance day = refl

pub total_shape : (as_of day total : ℕ) → compact_text
    (object (member (codes "as_of") (number (unsigned as_of))
    (member (codes "day") (number (unsigned day)) (member (codes "total") (number (unsigned total)) no_members))))
    ≡ total_body as_of day total
unfolding serde_json_on_literals
total_shape as_of day total = refl

pub differs_shape : (found kept : List ℕ) → is_plain found ≡ true → is_plain kept ≡ true
    → compact_text
    (object (member (codes "error") (string (codes "differs"))
    (member (codes "found") (string found) (member (codes "kept") (string kept) no_members))))
    ≡ codes "{\"error\":\"differs\",\"found\":\"" ++ (found ++ (codes "\",\"kept\":\"" ++ (kept ++ codes "\"}")))
unfolding serde_json_on_literals
differs_shape found kept f k =
    ap (λ l. codes "{\"error\":\"differs\",\"found\":" ++ l)
    (quoted_then found _ f ∙ ap (λ l. 34 ∷ (found ++ (codes "\",\"kept\":" ++ l))) (quoted_then kept (codes "}") k))

pub refused_shape : (cause : List ℕ) (line : ℕ) → is_plain cause ≡ true
    → compact_text
    (object (member (codes "cause") (string cause)
    (member (codes "error") (string (codes "refused"))
    (member (codes "line") (number (unsigned line)) no_members))))
    ≡ codes "{\"cause\":\"" ++ (cause ++ (codes "\",\"error\":\"refused\",\"line\":" ++ (decimal line ++ codes "}")))
unfolding serde_json_on_literals
refused_shape cause line e = ap (λ l. codes "{\"cause\":" ++ l) (quoted_then cause _ e)

-- the first members of a kept day
front_shape : (bytes day notices : ℕ) (digest told rest : List ℕ) → is_plain digest ≡ true → is_plain told ≡ true
    → codes "{\"bytes\":"
    ++ (decimal bytes ++ (codes ",\"day\":" ++ (decimal day ++ (codes ",\"digest\":" ++ (quoted digest
    ++ (codes ",\"notices\":" ++ (decimal notices ++ (codes ",\"notices_digest\":" ++ (quoted told ++ rest)))))))))
    ≡ codes "{\"bytes\":" ++ (decimal bytes ++ (codes ",\"day\":" ++ (decimal day ++ (codes ",\"digest\":\"" ++ (digest
    ++ (codes "\",\"notices\":" ++ (decimal notices ++ (codes ",\"notices_digest\":\"" ++ (told ++ 34 ∷ rest)))))))))
front_shape bytes day notices digest told rest d t =
    ap (λ l. codes "{\"bytes\":"
    ++ (decimal bytes ++ (codes ",\"day\":" ++ (decimal day ++ (codes ",\"digest\":" ++ l)))))
    (quoted_then digest _ d
    ∙ ap (λ l. 34
    ∷ (digest
    ++ (codes
    "\",\"notices\":" ++ (decimal notices ++ (codes ",\"notices_digest\":" ++ l))))) (quoted_then told rest t))

pub day_shape : (bytes day notices total tuples : ℕ) (digest told tariffs : List ℕ) → is_plain digest ≡ true →
    is_plain told ≡ true → is_plain tariffs ≡ true
    → compact_text (object
    (member (codes "bytes") (number (unsigned bytes))
    (member (codes "day") (number (unsigned day))
    (member (codes "digest") (string digest)
    (member (codes "notices") (number (unsigned notices))
    (member (codes "notices_digest") (string told)
    (member (codes "tariffs") (string tariffs)
    (member (codes "total") (number (unsigned total))
    (member (codes "tuples") (number (unsigned tuples)) no_members)))))))))
    ≡ codes "{\"bytes\":" ++ (decimal bytes ++ (codes ",\"day\":" ++ (decimal day ++ (codes ",\"digest\":\"" ++ (digest
    ++ (codes "\",\"notices\":" ++ (decimal notices ++ (codes ",\"notices_digest\":\"" ++ (told
    ++ (codes "\",\"tariffs\":\""
    ++ (tariffs
    ++ (codes
    "\",\"total\":" ++ (decimal total ++ (codes ",\"tuples\":" ++ (decimal tuples ++ codes "}")))))))))))))))
unfolding serde_json_on_literals
day_shape bytes day notices total tuples digest told tariffs d t f =
    front_shape bytes day notices digest told _ d t
    ∙ ap (λ l. codes "{\"bytes\":"
    ++ (decimal bytes ++ (codes ",\"day\":" ++ (decimal day ++ (codes ",\"digest\":\"" ++ (digest
    ++ (codes "\",\"notices\":" ++ (decimal notices ++ (codes ",\"notices_digest\":\""
    ++ (told ++ (codes "\",\"tariffs\":" ++ l))))))))))) (quoted_then tariffs _ f)

pub imported_shape : (bytes day notices total tuples : ℕ) (digest told outcome tariffs : List ℕ) →
    is_plain digest ≡ true → is_plain told ≡ true → is_plain outcome ≡ true → is_plain tariffs ≡ true
    → compact_text (object
    (member (codes "bytes") (number (unsigned bytes))
    (member (codes "day") (number (unsigned day))
    (member (codes "digest") (string digest)
    (member (codes "notices") (number (unsigned notices))
    (member (codes "notices_digest") (string told)
    (member (codes "outcome") (string outcome)
    (member (codes "tariffs") (string tariffs)
    (member (codes "total") (number (unsigned total))
    (member (codes "tuples") (number (unsigned tuples)) no_members))))))))))
    ≡ codes "{\"bytes\":" ++ (decimal bytes ++ (codes ",\"day\":" ++ (decimal day ++ (codes ",\"digest\":\"" ++ (digest
    ++ (codes "\",\"notices\":" ++ (decimal notices ++ (codes ",\"notices_digest\":\"" ++ (told
    ++ (codes "\",\"outcome\":\""
    ++ (outcome
    ++ (codes "\",\"tariffs\":\""
    ++ (tariffs
    ++ (codes
    "\",\"total\":" ++ (decimal total ++ (codes ",\"tuples\":" ++ (decimal tuples ++ codes "}")))))))))))))))))
unfolding serde_json_on_literals
imported_shape bytes day notices total tuples digest told outcome tariffs d t o f =
    front_shape bytes day notices digest told _ d t
    ∙ ap (λ l. codes "{\"bytes\":"
    ++ (decimal bytes ++ (codes ",\"day\":" ++ (decimal day ++ (codes ",\"digest\":\"" ++ (digest
    ++ (codes "\",\"notices\":" ++ (decimal notices ++ (codes ",\"notices_digest\":\""
    ++ (told ++ (codes "\",\"outcome\":" ++ l)))))))))))
    (quoted_then outcome _ o ∙ ap (λ l. 34 ∷ (outcome ++ (codes "\",\"tariffs\":" ++ l))) (quoted_then tariffs _ f))
