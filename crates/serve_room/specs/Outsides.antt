-- How many connections are out of a room for which others wait.
use Rattle.std.specs.Prelude.{ℕ}
use Rattle.serve_room.specs.declared.posts.Kind.{Kind}
use Rattle.serve_room.specs.declared.posts.Kind.TheVariants.{Post, Read, Free}
use Rattle.serve_room.specs.declared.room.WaitingRoom.{WaitingRoom}

-- how many that post a day are out
abbrev pub posts_out : WaitingRoom → ℕ
posts_out room = room.outside.posts

-- how many that ask for what is kept are out
abbrev pub reads_out : WaitingRoom → ℕ
reads_out room = room.outside.reads

-- how many of each of the two may be; of both together may be one more
abbrev pub most_out : WaitingRoom → ℕ
most_out room = room.outside.most

-- one more that posts a day, if it is of that kind
abbrev pub one_post : Kind → ℕ
one_post Post = 1
one_post Read = 0
one_post Free = 0

-- one more that asks for what is kept, if it is of that kind
abbrev pub one_read : Kind → ℕ
one_read Post = 0
one_read Read = 1
one_read Free = 0
