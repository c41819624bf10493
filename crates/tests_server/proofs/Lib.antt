mod EmptyLaws
mod PartsMove
