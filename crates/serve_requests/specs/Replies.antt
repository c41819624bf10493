-- An answer's status line, fields and body, as bytes.

use Rattle.std.specs.Prelude.{ℕ, List, ◌++◌, length, codes, decimal, unwrap_or}
use Rattle.http.specs.StatusCode.{reason_phrase}
use Rattle.serve_requests.specs.Bodies.{error_body}

-- a status, and the body of an answer
pub record Reply : Type 0 where
  pub status : ℕ
  pub body : List ℕ

-- the standard phrase of a status
abbrev pub phrase_of : ℕ → List ℕ
phrase_of status = unwrap_or (reason_phrase status) (codes "")

-- the status line, without its end
abbrev pub status_line : ℕ → List ℕ
status_line status = codes "HTTP/1.1 " ++ (decimal status ++ (codes " " ++ phrase_of status))

-- the field that gives the length of a body
abbrev pub length_field : List ℕ → List ℕ
length_field body = codes "Content-Length: " ++ decimal (length body)

-- the bytes of an answer: its status line, three fields, an empty line and the body
abbrev pub reply_bytes : Reply → List ℕ
reply_bytes r =
    status_line r.status ++ (codes "\r\n" ++ (length_field r.body
    ++ (codes "\r\nContent-Type: application/json\r\nConnection: close\r\n\r\n" ++ r.body)))

-- the answer of a word that says why
abbrev pub error_reply : ℕ → List ℕ → Reply
error_reply status word = record { status = status; body = error_body word }

-- want of memory
abbrev pub no_memory_reply : Reply
no_memory_reply = error_reply 500 (codes "memory")
