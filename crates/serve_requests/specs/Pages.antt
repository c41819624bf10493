-- The page to watch the day by, and the bytes of its answer.
use Rattle.std.specs.Prelude.{ℕ, List, ◌++◌, codes}
use Rattle.serve_requests.specs.Replies.{status_line, length_field}
use Rattle.serve_requests.specs.declared.page.asking.TheConstants.{ASKING}
use Rattle.serve_requests.specs.declared.page.markup.TheConstants.{FRONT, BODY, END}
use Rattle.serve_requests.specs.declared.page.showing.TheConstants.{SHOWING}
use Rattle.serve_requests.specs.declared.page.style.TheConstants.{STYLE}

-- the page, up to its script
unfoldable pub page_front : List ℕ
page_front = FRONT.now ++ (STYLE.now ++ BODY.now)

-- the page: the constants of the program, one behind the other
unfoldable pub whole_page : List ℕ
whole_page = page_front ++ (ASKING.now ++ (SHOWING.now ++ END.now))

-- the answer that has a page: its status line, its fields, an empty line and the page; no other page may hold it, its type is
-- as told, and no browser keeps it
abbrev pub page_reply : List ℕ → List ℕ
page_reply text =
    status_line 200
    ++ (codes "\r\n"
    ++ (length_field text
    ++ (codes "\r\nContent-Type: text/html; charset=utf-8\r\nX-Frame-Options: DENY\r\nX-Content-Type-Options: nosniff\r\nCache-Control: no-store\r\nConnection: close\r\n\r\n" ++ text)))

-- the answer that has the page
unfoldable pub page_bytes : List ℕ
page_bytes = page_reply whole_page
